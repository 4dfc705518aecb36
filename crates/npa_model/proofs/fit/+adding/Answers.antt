use Rattle.std.proofs.Common.{◌≡◌, List, ◌++◌, flat_map, ap, sym, ◌∙◌, subst}
use Rattle.std.specs.Prelude.{OnOk}
use Rattle.npa_term.specs.declared.term.Var.{Var as Variable}
use Rattle.npa_term.specs.Variables.{variables}
use Rattle.npa_term.proofs.Rows.{variables_at}
use Rattle.npa_model.proofs.fit.+adding.Goals as goal

pub add_variables-returns-in-App : goal.add_variables-returns-in-App
add_variables-returns-in-App t c =
    let all : flat_map variables c.as_slice.result.now ≡ variables c.args.term.now =
    ap (flat_map variables) c.as_slice.ensures ∙ sym (variables_at c.args.term.now _ c.in-App.args c.in-App.is) in
    subst (λ (vs : List Variable). OnOk c.add_all_variables.result (c.add_all_variables.new.vars ≡ c.args.vars.now ++ vs)) all c.add_all_variables.ensures
