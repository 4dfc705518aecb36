use Rattle.std.proofs.Common.{◌≡◌, ◌++◌, drop}
use Rattle.npa_unify.specs.Branches.{pair_variables}
use Rattle.npa_unify.proofs.fitting.variables_of_pairs.Given as goal

abbrev pub invariant-loop-t : goal.invariant-loop-t
invariant-loop-t l = l.vars.items ++ pair_variables (drop l.t-index l.pairs) ≡ pair_variables l.pairs
