use Rattle.std.proofs.Common.{◌≡◌, ◌<◌, ℕ, length}
use Rattle.fold_store.specs.Forest.{SameInClass}
use Rattle.fold_store.proofs.forest.Forest.head.Given as goal

abbrev pub invariant-loop-step : goal.invariant-loop-step
invariant-loop-step l = record {
  within : l.at < length l.self;
  same : (label : ℕ → ℕ) → SameInClass label l.self → label l.at ≡ label l.number;
}
