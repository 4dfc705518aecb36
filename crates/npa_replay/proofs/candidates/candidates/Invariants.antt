use Rattle.npa_replay.proofs.Choosing.{FoundBelow}
use Rattle.npa_replay.proofs.candidates.candidates.Given as goal

abbrev pub invariant-loop-place : goal.invariant-loop-place
invariant-loop-place l = FoundBelow l.scene.sorts.now l.scene.instances.now l.scene.state.now l.part l.place l.found
