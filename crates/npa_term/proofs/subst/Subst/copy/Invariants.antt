use Rattle.std.proofs.Common.{◌≡◌, take}
use Rattle.npa_term.proofs.subst.Subst.copy.Given as goal

abbrev pub invariant-loop-v : goal.invariant-loop-v
invariant-loop-v l = l.bindings.items ≡ take l.v-index l.v-items
