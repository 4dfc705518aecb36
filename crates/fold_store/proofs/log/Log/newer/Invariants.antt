use Rattle.std.proofs.Common.{◌≤◌, length}
use Rattle.fold_store.proofs.log.Log.newer.Given as goal

abbrev pub invariant-loop-left : goal.invariant-loop-left
invariant-loop-left l = l.left ≤ length l.self-inside.marks.items

abbrev pub decreases-loop-left : goal.decreases-loop-left
decreases-loop-left l = l.left
