use Rattle.std.proofs.Common.{subst}
use Rattle.npa_model.specs.declared.aim.Part.{Part}
use Rattle.npa_replay.specs.Choices.{AreCandidates}
use Rattle.npa_replay.proofs.Choosing.{all_more, all_done}
use Rattle.npa_replay.proofs.candidates.all_candidates.Goals as goal

pub loop-part-preserved : goal.loop-part-preserved
loop-part-preserved c =
    all_more c.args.scene.now.sorts.now c.args.scene.now.instances.now c.args.scene.now.state.now c.args.scene.now.parts.now c.loop-part.all.items c.push.new.self.items c.loop-part.part-index c.part-item.result c.in_ok-candidates.field-0 c.loop-part.invariant c.loop-part-test.true
    (subst (λ (q : Part). AreCandidates c.args.scene.now.instances.now c.args.scene.now.state.now c.args.scene.now.sorts.now q c.in_ok-candidates.field-0) c.part-item.is c.in_ok-candidates.ensures) c.in_ok-push.ensures.items

pub returns : goal.returns
returns c =
    all_done c.args.scene.now.sorts.now c.args.scene.now.instances.now c.args.scene.now.state.now c.args.scene.now.parts.now c.loop-part.all.items c.loop-part.part-index c.loop-part.invariant c.loop-part-test.false
