use Rattle.std.proofs.Common.{◌≤◌}
use Rattle.npa_choice.proofs.Crowding.{Bound}
use Rattle.npa_choice.proofs.room.count_bound.Given as goal

abbrev pub invariant-loop-offers : goal.invariant-loop-offers
invariant-loop-offers l = record {
  bound : Bound l.askers l.room l.offers-index l.count;
  few : l.count ≤ l.offers-index;
}
