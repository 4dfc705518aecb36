use Rattle.std.proofs.Common.{◌≡◌, ◌++◌, map, take, drop}
use Rattle.fold_store.specs.Log.{clip_mark}
use Rattle.fold_store.proofs.log.clip_from.Given as goal

abbrev pub invariant-loop-at : goal.invariant-loop-at
invariant-loop-at l = l.marks.items ≡ map (clip_mark l.bound) (take l.at l.initial.marks.items) ++ drop l.at l.initial.marks.items
