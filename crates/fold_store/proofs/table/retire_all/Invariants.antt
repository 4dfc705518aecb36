use Rattle.std.proofs.Common.{◌≡◌, drop}
use Rattle.fold_store.specs.Table.{retire_each}
use Rattle.fold_store.proofs.table.retire_all.Given as goal

abbrev pub invariant-loop-number : goal.invariant-loop-number
invariant-loop-number g l =
    retire_each l.to l.tick (drop l.number-index l.numbers) l.entries.items ≡ retire_each l.to l.tick l.numbers l.initial.entries.items
