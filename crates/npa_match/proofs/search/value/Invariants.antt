use Rattle.std.proofs.Common.{◌≡◌, drop}
use Rattle.npa_term.specs.Bound.{value_of}
use Rattle.npa_match.specs.Matching.{bound_pairs}
use Rattle.npa_match.proofs.search.value.Given as goal

abbrev pub invariant-loop-w : goal.invariant-loop-w
invariant-loop-w l = value_of (bound_pairs (drop l.w-index l.bound)) l.v ≡ value_of (bound_pairs l.bound) l.v
