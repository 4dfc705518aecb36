use Rattle.fold_store.specs.Table.{ClipsMarked}
use Rattle.fold_store.proofs.table.clip_marked.Given as goal

abbrev pub invariant-loop-at : goal.invariant-loop-at
invariant-loop-at g l = ClipsMarked l.bound l.from l.at l.marks l.initial.entries.items l.entries.items
