use Rattle.npa_choice.specs.Partial.{waiting}
use Rattle.npa_choice.proofs.Completing.{Tried}
use Rattle.npa_choice.proofs.search.+complete.Given as goal

abbrev pub decreases-complete : goal.decreases-complete
decreases-complete l = waiting l.choice.now.chosen

abbrev pub invariant-loop-n : goal.invariant-loop-n
invariant-loop-n l = Tried l.askers l.sorts l.choice l.k l.n
