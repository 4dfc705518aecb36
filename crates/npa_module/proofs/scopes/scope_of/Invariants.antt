use Rattle.std.proofs.Common.{◌≡◌, ◌++◌, drop}
use Rattle.npa_module.specs.Items.{scope_from}
use Rattle.npa_module.proofs.scopes.scope_of.Given as goal

abbrev pub invariant-loop-k : goal.invariant-loop-k
invariant-loop-k l = l.scope ++ scope_from l.k (drop l.k l.names) (drop l.k l.sorts) ≡ scope_from 0 l.names l.sorts
