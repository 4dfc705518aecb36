use Rattle.std.proofs.Common.{length}
use Rattle.npa_sorts.specs.Table.{rows_of}
use Rattle.npa_sorts.proofs.TableLemmas.{RaisedBefore}
use Rattle.npa_sorts.proofs.table.raise.Given as goal

abbrev pub invariant-loop-s : goal.invariant-loop-s
invariant-loop-s l = RaisedBefore l.s (length l.above) l.lower l.above (rows_of l.initial.table.items) (rows_of l.table.items)
