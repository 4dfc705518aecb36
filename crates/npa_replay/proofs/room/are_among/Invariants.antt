use Rattle.npa_replay.proofs.Crowding.{AmongBelow}
use Rattle.npa_replay.proofs.room.are_among.Given as goal

abbrev pub invariant-loop-number : goal.invariant-loop-number
invariant-loop-number l = AmongBelow l.numbers l.others l.number-index
