use Rattle.std.proofs.Common.{◌≡◌, drop}
use Rattle.fold_store.specs.Table.{covers_at, first_passing}
use Rattle.fold_store.proofs.table.first_cover.Given as goal

abbrev pub invariant-loop-number : goal.invariant-loop-number
invariant-loop-number g l =
    first_passing (covers_at (g.F.Folding.rules l.rules) l.item l.entries) (drop l.number-index l.live)
    ≡ first_passing (covers_at (g.F.Folding.rules l.rules) l.item l.entries) l.live
