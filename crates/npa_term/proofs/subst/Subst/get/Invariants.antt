use Rattle.std.proofs.Common.{◌≡◌, drop}
use Rattle.npa_term.specs.Bound.{value_of}
use Rattle.npa_term.proofs.subst.Subst.get.Given as goal

abbrev pub invariant-loop-bound : goal.invariant-loop-bound
invariant-loop-bound l = value_of (drop l.bound-index l.bound-items) l.v ≡ value_of l.self l.v
