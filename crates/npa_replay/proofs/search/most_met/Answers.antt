use Rattle.std.proofs.Common.{◌<◌, length, refl, subst, arith}
use Rattle.npa_replay.specs.Groups.{HasChoice}
use Rattle.npa_replay.proofs.Grouping.{most_all, none_chosen}
use Rattle.npa_replay.proofs.Keeping.{kept_none}
use Rattle.npa_replay.proofs.search.most_met.Goals as goal

pub loop-k-init : goal.loop-k-init
loop-k-init c = record {
  choice = none_chosen c.args.scene.now.instances.now c.args.scene.now.state.now c.args.scene.now.sorts.now c.args.scene.now.parts.now;
  kept = kept_none c.args.scene.now.instances.now c.args.scene.now.state.now c.args.scene.now.sorts.now c.args.scene.now.parts.now c.new.result (c.new.ensures.held c.args.scene.now.sorts.now) c.new.ensures.used c.new.ensures.pairs;
}

pub returns : goal.returns
returns c =
    most_all c.args.scene.now.instances.now c.args.scene.now.state.now c.args.scene.now.sorts.now c.args.scene.now.parts.now (length c.args.scene.now.parts.now)
    (subst (λ n. HasChoice c.args.scene.now.instances.now c.args.scene.now.state.now c.args.scene.now.sorts.now c.args.scene.now.parts.now (λ i. i < n)) (omega (arith, c.loop-k-test.false, c.loop-k.auto.k-end)) c.loop-k.invariant.choice) refl
