use Rattle.std.proofs.Common.{arith}
use Rattle.fold_core.specs.Machine.{put_back_entry}
use Rattle.fold_store.proofs.Numbers.{turned_next}
use Rattle.fold_store.proofs.table.put_back_all.Goals as goal

pub loop-at-preserved : goal.loop-at-preserved
loop-at-preserved g c = turned_next put_back_entry _ _ _ _ (omega arith) c.loop-at.invariant c.put_back_at.ensures
