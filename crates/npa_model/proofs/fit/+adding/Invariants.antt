use Rattle.std.proofs.Common.{◌≡◌, ◌++◌, take, flat_map}
use Rattle.npa_term.specs.Variables.{variables}
use Rattle.npa_model.proofs.fit.+adding.Given as goal

abbrev pub invariant-add_all_variables-loop-term : goal.invariant-add_all_variables-loop-term
invariant-add_all_variables-loop-term l = l.vars ≡ l.initial.vars ++ flat_map variables (take l.term-index l.terms)
