use Rattle.std.proofs.Common.{ℕ, ◌<◌, Contains}
use Rattle.npa_replay.specs.Choices.{HasGroundTerm}
use Rattle.npa_replay.proofs.inhabited.have_ground_terms.Given as goal

abbrev pub invariant-loop-sort : goal.invariant-loop-sort
invariant-loop-sort l = (s : ℕ) → s < l.sort → Contains l.sorts s → HasGroundTerm l.sig s
