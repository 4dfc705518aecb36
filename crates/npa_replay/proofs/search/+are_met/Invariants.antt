use Rattle.std.proofs.Common.{length}
use Rattle.npa_match.specs.Matching.{read_pairs}
use Rattle.npa_replay.specs.Choices.{picked}
use Rattle.npa_replay.proofs.Searching.{Tried}
use Rattle.npa_replay.proofs.search.+are_met.Given as goal

abbrev pub decreases-are_met : goal.decreases-are_met
decreases-are_met l = length l.places.now

abbrev pub invariant-loop-target : goal.invariant-loop-target
invariant-loop-target l = Tried l.scene.sorts.now l.scene.instances.now l.scene.state.now l.scene.parts.now (picked l.scene.parts.now l.rest) l.choice.used (read_pairs l.choice.pairs) l.k l.target-items l.target-index
