use Rattle.std.proofs.Common.{◌≡◌, take}
use Rattle.npa_match.specs.Matching.{bound_pairs}
use Rattle.npa_subsume.proofs.cover.substitution.Given as goal

abbrev pub invariant-loop-v : goal.invariant-loop-v
invariant-loop-v l = l.s ≡ bound_pairs (take l.v-index l.bound)
