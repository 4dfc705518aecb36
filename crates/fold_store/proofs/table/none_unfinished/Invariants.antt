use Rattle.std.proofs.Common.{◌≡◌, drop}
use Rattle.fold_store.specs.Table.{unfinished_at, first_passing}
use Rattle.fold_store.proofs.table.none_unfinished.Given as goal

abbrev pub invariant-loop-number : goal.invariant-loop-number
invariant-loop-number g l = first_passing (unfinished_at l.entries) (drop l.number-index l.live) ≡ first_passing (unfinished_at l.entries) l.live
