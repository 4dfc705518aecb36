use Rattle.std.proofs.Common.{◌≡◌, None, replicate}
use Rattle.npa_choice.proofs.partial.none_chosen.Given as goal

abbrev pub invariant-loop : goal.invariant-loop
invariant-loop l = l.chosen ≡ replicate l.counter None
