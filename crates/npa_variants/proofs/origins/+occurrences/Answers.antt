use Rattle.std.proofs.Common.{◌≡◌, ◌∙◌, ap, sym, true, false, cond, drop, ◌+◌, flat_map, arith}
use Rattle.std.proofs.lemmas.Grind.{common_steps}
use Rattle.npa_term.specs.Numbering.{is_listed}
use Rattle.npa_term.specs.Variables.{variables}
use Rattle.npa_term.proofs.Rows.{variables_at}
use Rattle.npa_variants.proofs.OriginSteps.{listed_step}
use Rattle.npa_variants.proofs.origins.+occurrences.Goals as goal

pub occurs-returns-in-App : goal.occurs-returns-in-App
occurs-returns-in-App t c =
    c.occurs_in.ensures ∙ ap (λ ts. is_listed (flat_map variables ts) c.args.v) c.as_slice.ensures
    ∙ ap (λ vs. is_listed vs c.args.v) (sym (variables_at c.args.t.now _ c.in-App.args c.in-App.is))

pub occurs_in-returns-then-occurs : goal.occurs_in-returns-then-occurs
occurs_in-returns-then-occurs t c =
    let found : is_listed (variables c.t-item.result) c.args.v ≡ true = grind (arith, common_steps) in
    sym (sym c.loop-t.invariant ∙ listed_step c.args.ts.now c.loop-t.t-index c.t-item.result c.args.v c.loop-t-test.true c.t-item.is
    ∙ ap (λ b. cond b true (is_listed (flat_map variables (drop (c.loop-t.t-index + 1) c.args.ts.now)) c.args.v)) found)

pub occurs_in-loop-t-preserved : goal.occurs_in-loop-t-preserved
occurs_in-loop-t-preserved t c =
    let none : is_listed (variables c.t-item.result) c.args.v ≡ false = grind (arith, common_steps) in
    sym (listed_step c.args.ts.now c.loop-t.t-index c.t-item.result c.args.v c.loop-t-test.true c.t-item.is
    ∙ ap (λ b. cond b true (is_listed (flat_map variables (drop (c.loop-t.t-index + 1) c.args.ts.now)) c.args.v)) none) ∙ c.loop-t.invariant
