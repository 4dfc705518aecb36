use Rattle.std.proofs.Common.{◌≡◌, length}
use Rattle.npa_run_text.proofs.Tables.{TabledUpTo}
use Rattle.npa_run_text.proofs.strand_table.table_of.Given as goal

abbrev pub invariant-loop-k : goal.invariant-loop-k
invariant-loop-k l = record {
  tabled : TabledUpTo l.k l.strands l.table.names l.table.places.items;
  even : length l.table.places.items ≡ length l.table.names;
}
