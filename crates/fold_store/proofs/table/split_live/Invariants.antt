use Rattle.std.proofs.Common.{◌≡◌, not, take}
use Rattle.std.specs.List.{filter}
use Rattle.fold_store.specs.Table.{covered_at}
use Rattle.fold_store.proofs.table.split_live.Given as goal

abbrev pub invariant-loop-number : goal.invariant-loop-number
invariant-loop-number g l = record {
  hits : l.covered.items ≡ filter (covered_at (g.F.Folding.rules l.rules) l.item l.entries) (take l.number-index l.live);
  rest : l.others.items ≡ filter (λ n. not (covered_at (g.F.Folding.rules l.rules) l.item l.entries n)) (take l.number-index l.live);
}
