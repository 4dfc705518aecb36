use Rattle.std.proofs.Common.{arith}
use Rattle.fold_store.specs.Log.{clip_mark}
use Rattle.fold_store.proofs.Numbers.{turned_next}
use Rattle.fold_store.proofs.Logging.{front_same}
use Rattle.fold_store.proofs.log.clip_from.Goals as goal

pub loop-at-init : goal.loop-at-init
loop-at-init c = front_same c.args.bound c.args.marks.now.items c.args.from c.requires.older

pub loop-at-preserved : goal.loop-at-preserved
loop-at-preserved c = turned_next (clip_mark c.args.bound) _ _ _ _ (omega arith) c.loop-at.invariant c.clip_at.ensures
