use Rattle.std.proofs.Common.{◌+◌, sym, subst, arith}
use Rattle.npa_replay.proofs.Crowding.{Bound, bound_same, bound_more, is_bound_at, crowded}
use Rattle.npa_replay.proofs.room.count_bound.Goals.{then-is_bound, else-is_bound}
use Rattle.npa_replay.proofs.room.count_bound.Goals as goal

pub loop-i-preserved : goal.loop-i-preserved
loop-i-preserved c = elim c.if-is_bound.branch [
  | then-is_bound w ↦ record {
    bound = subst (λ n. Bound c.args.scene.now.parts.now c.args.candidates.now c.args.places.now c.args.room.now (c.loop-i.i + 1) n) (sym w.count-is)
        (bound_more c.args.scene.now.sorts.now c.args.scene.now.instances.now c.args.scene.now.state.now c.args.scene.now.parts.now c.args.candidates.now c.requires.candidates c.args.places.now c.requires.places c.requires.different c.args.room.now
        c.loop-i.i c.loop-i.count c.loop-i.invariant.bound c.loop-i-test.true
        (is_bound_at c.args.scene.now.parts.now c.args.candidates.now c.args.places.now c.args.room.now c.place_at-k.result c.loop-i.i c.place_at-k.ensures.value
        c.index-scene-k.result c.place_at-k.ensures.part c.place_at-k.ensures.candidates c.index-candidates-k.result c.as_slice.result.now c.index-candidates-k.is c.as_slice.ensures
        (c.is_bound.ensures.takes w.if-is_bound.true) (c.is_bound.ensures.among w.if-is_bound.true)));
    few = omega (arith, w.count-is, c.loop-i.invariant.few);
  }
  | else-is_bound w ↦ record {
    bound = subst (λ n. Bound c.args.scene.now.parts.now c.args.candidates.now c.args.places.now c.args.room.now (c.loop-i.i + 1) n) (sym w.count-is)
        (bound_same c.args.scene.now.sorts.now c.args.scene.now.instances.now c.args.scene.now.state.now c.args.scene.now.parts.now c.args.candidates.now c.requires.candidates c.args.places.now c.requires.places c.requires.different c.args.room.now
        c.loop-i.i c.loop-i.count c.loop-i.invariant.bound);
    few = omega (arith, w.count-is, c.loop-i.invariant.few);
  }
]

pub returns : goal.returns
returns c many d =
    crowded c.args.scene.now.sorts.now c.args.scene.now.instances.now c.args.scene.now.state.now c.args.scene.now.parts.now c.args.candidates.now c.requires.candidates c.args.places.now c.requires.places c.requires.different c.args.room.now
    c.loop-i.i c.loop-i.count c.loop-i.invariant.bound (omega (arith, c.loop-i.auto.i-end)) many d
