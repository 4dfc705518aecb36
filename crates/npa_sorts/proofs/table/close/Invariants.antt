use Rattle.std.proofs.Common.{take}
use Rattle.npa_sorts.specs.Table.{rows_of, IsTable}
use Rattle.npa_sorts.proofs.table.close.Given as goal

abbrev pub invariant-loop-pair : goal.invariant-loop-pair
invariant-loop-pair l = IsTable (record { declared = l.declared; pairs = take l.pair-index l.pairs }) (rows_of l.table.items)
