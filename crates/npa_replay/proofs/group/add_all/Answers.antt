use Rattle.std.proofs.Common.{ℕ, ◌+◌, List, sym, subst, arith}
use Rattle.npa_replay.proofs.Growing.{Added, added_more, added_skip, added_all}
use Rattle.npa_replay.proofs.group.add_all.Goals.{then-place-k+in_ok-add, else-place-k}
use Rattle.npa_replay.proofs.group.add_all.Goals as goal

pub loop-place-preserved : goal.loop-place-preserved
loop-place-preserved c = elim c.if-place-k.branch [
  | then-place-k+in_ok-add w ↦
      subst (λ (ns : List ℕ). Added c.args.k c.args.more.now (c.loop-place.place-index + 1) c.args.places.now ns) (sym w.places-is)
      (added_more c.args.k c.args.more.now c.loop-place.place-index c.args.places.now c.loop-place.places c.loop-place.invariant
      w.add.new.places (w.in_ok-add.ensures.grown c.args.k w.if-place-k.true) w.in_ok-add.ensures.there)
  | else-place-k w ↦
      subst (λ (ns : List ℕ). Added c.args.k c.args.more.now (c.loop-place.place-index + 1) c.args.places.now ns) (sym w.places-is)
      (added_skip c.args.k c.args.more.now c.loop-place.place-index c.args.places.now c.loop-place.places c.loop-place.invariant (omega (arith, w.if-place-k.false)))
]

pub returns-clause-there : goal.returns-clause-there
returns-clause-there c =
    added_all c.args.k c.args.more.now c.loop-place.place-index c.args.places.now c.loop-place.places c.loop-place.invariant (omega (arith, c.loop-place-test.false))
