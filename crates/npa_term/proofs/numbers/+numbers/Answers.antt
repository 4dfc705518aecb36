use Rattle.std.proofs.Common.{◌≡◌, ◌∙◌, ap, sym, subst, arith, flat_map}
use Rattle.std.specs.Prelude.{OnOk}
use Rattle.std.proofs.lemmas.Grind.{common_steps}
use Rattle.npa_term.specs.Numbering.{once_after}
use Rattle.npa_term.specs.Variables.{variables}
use Rattle.npa_term.proofs.Numbered.{seen_step}
use Rattle.npa_term.proofs.Rows.{variables_at}
use Rattle.npa_term.proofs.numbers.+numbers.Goals as goal

pub add_variables-returns-in-App : goal.add_variables-returns-in-App
add_variables-returns-in-App t c =
    let all : flat_map variables c.as_slice.result.now ≡ variables c.args.t.now =
    ap (flat_map variables) c.as_slice.ensures ∙ sym (variables_at c.args.t.now _ c.in-App.args c.in-App.is) in
    subst (λ vs. OnOk c.add_variables_of.result (c.add_variables_of.new.seen.items ≡ once_after c.args.seen.now.items vs)) all c.add_variables_of.ensures

pub add_variables_of-loop-t-preserved : goal.add_variables_of-loop-t-preserved
add_variables_of-loop-t-preserved t c =
    let added : c.add_variables.new.seen.items ≡ once_after c.loop-t.seen.items (variables c.t-item.result) = grind (arith, common_steps) in
    seen_step c.loop-t.seen.items c.add_variables.new.seen.items c.args.ts.now c.loop-t.t-index c.t-item.result c.loop-t-test.true c.t-item.is added ∙ c.loop-t.invariant
