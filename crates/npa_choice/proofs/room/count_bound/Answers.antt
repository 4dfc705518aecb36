use Rattle.std.proofs.Common.{◌+◌, sym, subst, arith}
use Rattle.npa_choice.specs.Room.{AreBound}
use Rattle.npa_choice.proofs.Crowding.{Bound, bound_none, bound_same, bound_more, crowded}
use Rattle.npa_choice.proofs.room.count_bound.Goals.{then-are_bound, else-are_bound}
use Rattle.npa_choice.proofs.room.count_bound.Goals as goal

pub loop-offers-init : goal.loop-offers-init
loop-offers-init c = record { bound = bound_none c.args.askers.now c.args.room.now; few = omega arith }

pub loop-offers-preserved : goal.loop-offers-preserved
loop-offers-preserved c = elim c.if-are_bound.branch [
  | then-are_bound w ↦ record {
    bound = subst (λ n. Bound c.args.askers.now c.args.room.now (c.loop-offers.offers-index + 1) n) (sym w.count-is)
        (bound_more c.args.askers.now c.args.room.now c.loop-offers.offers-index c.loop-offers.count c.offers-item.result c.loop-offers-test.true c.offers-item.is
        (subst (λ fs. AreBound fs c.args.room.now) c.as_slice.ensures (c.are_bound.ensures w.if-are_bound.true)) c.loop-offers.invariant.bound);
    few = omega (arith, w.count-is, c.loop-offers.invariant.few);
  }
  | else-are_bound w ↦ record {
    bound = subst (λ n. Bound c.args.askers.now c.args.room.now (c.loop-offers.offers-index + 1) n) (sym w.count-is)
        (bound_same c.args.askers.now c.args.room.now c.loop-offers.offers-index c.loop-offers.count c.loop-offers.invariant.bound);
    few = omega (arith, w.count-is, c.loop-offers.invariant.few);
  }
]

pub returns : goal.returns
returns c many o choice = crowded c.args.askers.now c.args.room.now c.loop-offers.offers-index c.loop-offers.count c.loop-offers.invariant.bound many o choice
