use Rattle.npa_sorts.proofs.TableLemmas.{table_taken}
use Rattle.npa_sorts.proofs.table.close.Goals as goal

pub loop-pair-preserved : goal.loop-pair-preserved
loop-pair-preserved c =
    table_taken c.args.declared c.loop-pair.pair-index c.args.pairs.now _ c.loop-pair-test.true (c.in_ok-add_pair.ensures _ c.loop-pair.invariant)
