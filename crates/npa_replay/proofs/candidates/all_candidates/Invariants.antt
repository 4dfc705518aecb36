use Rattle.std.proofs.Common.{take}
use Rattle.npa_replay.specs.Choices.{AreAllCandidates}
use Rattle.npa_replay.proofs.candidates.all_candidates.Given as goal

abbrev pub invariant-loop-part : goal.invariant-loop-part
invariant-loop-part l = AreAllCandidates l.scene.instances.now l.scene.state.now l.scene.sorts.now (take l.part-index l.scene.parts.now) l.all.items
