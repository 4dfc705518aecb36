use Rattle.std.proofs.Common.{◌≡◌, ◌++◌, map, take, drop}
use Rattle.fold_core.specs.Machine.{put_back_entry}
use Rattle.fold_store.proofs.table.put_back_all.Given as goal

abbrev pub invariant-loop-at : goal.invariant-loop-at
invariant-loop-at g l =
    l.entries.items ≡ map put_back_entry (take l.at l.initial.entries.items) ++ drop l.at l.initial.entries.items
