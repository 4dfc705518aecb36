use Rattle.std.proofs.Common.{◌≡◌, Contains, take}
use Rattle.npa_term.specs.declared.term.Var.{Var as Variable}
use Rattle.npa_unify.proofs.fitting.have_one_sort.Given as goal

abbrev pub invariant-loop-v : goal.invariant-loop-v
invariant-loop-v l = (v : Variable) → Contains (take l.v-index l.vars) v → (w : Variable) → Contains l.vars w → v.num ≡ w.num → v ≡ w
