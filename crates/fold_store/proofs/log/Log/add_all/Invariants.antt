use Rattle.std.proofs.Common.{ℕ, take}
use Rattle.fold_core.specs.Machine.{Stands}
use Rattle.fold_store.specs.Log.{Marked}
use Rattle.fold_store.proofs.log.Log.add_all.Given as goal

abbrev pub invariant-loop-number : goal.invariant-loop-number
invariant-loop-number l = record {
  marked : (k n : ℕ) → Stands (take l.number-index l.numbers) k n → Marked l.self n l.tick;
  keeps : (n since : ℕ) → Marked l.initial.self n since → Marked l.self n since;
}
