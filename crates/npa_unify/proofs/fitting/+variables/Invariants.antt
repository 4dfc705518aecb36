use Rattle.std.proofs.Common.{◌≡◌, ◌++◌, drop}
use Rattle.std.specs.Prelude.{flat_map}
use Rattle.npa_term.specs.Variables.{variables}
use Rattle.npa_unify.proofs.fitting.+variables.Given as goal

abbrev pub invariant-add_all_variables-loop-t : goal.invariant-add_all_variables-loop-t
invariant-add_all_variables-loop-t l = l.vars.items ++ flat_map variables (drop l.t-index l.ts) ≡ l.initial.vars.items ++ flat_map variables l.ts
