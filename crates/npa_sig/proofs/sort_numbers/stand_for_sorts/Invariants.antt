use Rattle.npa_sorts.specs.Subsorts.{IsSort}
use Rattle.npa_sig.proofs.Places.{HoldUpTo}
use Rattle.npa_sig.proofs.sort_numbers.stand_for_sorts.Given as goal

abbrev pub invariant-loop-number : goal.invariant-loop-number
invariant-loop-number l = HoldUpTo (IsSort l.sorts) l.number-index l.numbers
