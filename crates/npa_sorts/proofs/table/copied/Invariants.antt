use Rattle.std.proofs.Common.{◌≡◌, take}
use Rattle.npa_sorts.specs.Table.{rows_of}
use Rattle.npa_sorts.proofs.table.copied.Given as goal

abbrev pub invariant-loop-row : goal.invariant-loop-row
invariant-loop-row l = rows_of l.copied.items ≡ rows_of (take l.row-index l.table)
