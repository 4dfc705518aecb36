use Rattle.npa_replay.proofs.Linking.{SharersBelow}
use Rattle.npa_replay.proofs.links.sharers.Given as goal

abbrev pub invariant-loop-j : goal.invariant-loop-j
invariant-loop-j l = SharersBelow l.own l.keys l.j l.places
