use Rattle.std.proofs.Common.{◌≤◌}
use Rattle.npa_replay.proofs.Crowding.{Bound}
use Rattle.npa_replay.proofs.room.count_bound.Given as goal

abbrev pub invariant-loop-i : goal.invariant-loop-i
invariant-loop-i l = record {
  bound : Bound l.scene.parts.now l.candidates l.places l.room l.i l.count;
  few : l.count ≤ l.i;
}
