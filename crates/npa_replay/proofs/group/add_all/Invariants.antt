use Rattle.npa_replay.proofs.Growing.{Added}
use Rattle.npa_replay.proofs.group.add_all.Given as goal

abbrev pub invariant-loop-place : goal.invariant-loop-place
invariant-loop-place l = Added l.k l.more l.place-index l.initial.places l.places
