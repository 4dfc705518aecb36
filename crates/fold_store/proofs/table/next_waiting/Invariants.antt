use Rattle.fold_store.specs.Table.{NoneWaits}
use Rattle.fold_store.proofs.table.next_waiting.Given as goal

abbrev pub invariant-loop-at : goal.invariant-loop-at
invariant-loop-at g l = NoneWaits l.at l.entries
