use Rattle.fold_numbers.specs.Numbers.{numbers}
use Rattle.fold_numbers.proofs.Runs.{Along}
use Rattle.fold_numbers.proofs.replay.State.settle.Given as goal

abbrev pub invariant-loop-child : goal.invariant-loop-child
invariant-loop-child l = Along (numbers l.rules) l.tick l.parent l.children l.places l.child l.initial.self l.self
