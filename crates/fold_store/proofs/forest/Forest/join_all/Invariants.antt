use Rattle.std.proofs.Common.{◌≡◌, ℕ, length}
use Rattle.fold_core.specs.Machine.{Stands}
use Rattle.fold_store.specs.Forest.{SameInClass}
use Rattle.fold_store.proofs.forest.Forest.join_all.Given as goal

abbrev pub invariant-loop-number : goal.invariant-loop-number
invariant-loop-number l = record {
  many : length l.self ≡ length l.initial.self;
  same : (label : ℕ → ℕ) → SameInClass label l.initial.self → ((k n : ℕ) → Stands l.numbers k n → label n ≡ label l.last) → SameInClass label l.self;
}
