use Rattle.std.proofs.Common.{◌≡◌, Contains, take}
use Rattle.npa_term.specs.declared.term.Var.{Var as Variable}
use Rattle.npa_unify.proofs.fitting.has_one_sort.Given as goal

abbrev pub invariant-loop-w : goal.invariant-loop-w
invariant-loop-w l = (w : Variable) → Contains (take l.w-index l.vars) w → l.v.num ≡ w.num → l.v ≡ w
