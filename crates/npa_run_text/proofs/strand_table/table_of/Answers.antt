use Rattle.std.proofs.Common.{arith}
use Rattle.npa_run_text.proofs.Tables.{next_tabled, next_even}
use Rattle.npa_run_text.proofs.strand_table.table_of.Goals as goal

pub loop-k-preserved : goal.loop-k-preserved
loop-k-preserved c = record {
  tabled = next_tabled c.loop-k.table.names c.add_strand.new.table.names c.loop-k.table.places.items c.add_strand.new.table.places.items c.args.strands.now c.loop-k.k
      c.index-strands-k.result c.as_slice.result.now (omega arith) c.as_slice.ensures c.loop-k.invariant.even
      c.in_ok-add_strand.ensures.names c.in_ok-add_strand.ensures.places c.loop-k.invariant.tabled;
  even = next_even c.loop-k.table.names c.add_strand.new.table.names c.loop-k.table.places.items c.add_strand.new.table.places.items c.args.strands.now c.loop-k.k
      c.index-strands-k.result c.as_slice.result.now (omega arith) c.as_slice.ensures c.loop-k.invariant.even
      c.in_ok-add_strand.ensures.names c.in_ok-add_strand.ensures.places;
}
