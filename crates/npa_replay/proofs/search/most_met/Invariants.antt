use Rattle.std.proofs.Common.{◌<◌, IfSome, take}
use Rattle.npa_replay.specs.Groups.{HasChoice}
use Rattle.npa_replay.specs.Held.{IsKept}
use Rattle.npa_replay.proofs.search.most_met.Given as goal

abbrev pub invariant-loop-k : goal.invariant-loop-k
invariant-loop-k l = record {
  choice : HasChoice l.scene.instances.now l.scene.state.now l.scene.sorts.now l.scene.parts.now (λ i. i < l.k);
  kept : IfSome l.kept (IsKept l.scene.instances.now l.scene.state.now l.scene.sorts.now (take l.k l.scene.parts.now));
}
