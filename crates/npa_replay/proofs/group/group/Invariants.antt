use Rattle.std.proofs.Common.{◌+◌, ◌-◌}
use Rattle.npa_replay.proofs.Growing.{Growing}
use Rattle.npa_replay.proofs.group.group.Given as goal

abbrev pub decreases-loop-alike : goal.decreases-loop-alike
decreases-loop-alike l = (l.k + 1 - l.shared) + (l.k + 1 - l.alike)

abbrev pub invariant-loop-alike : goal.invariant-loop-alike
invariant-loop-alike l = Growing l.by_variable l.by_strand l.k l.places l.shared l.alike
