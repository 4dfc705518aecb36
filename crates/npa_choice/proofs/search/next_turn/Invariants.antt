use Rattle.std.proofs.Common.{◌≡◌, ◌<◌, ℕ, Some, None, slice_get}
use Rattle.std.specs.Prelude.{IfSome}
use Rattle.npa_choice.proofs.search.next_turn.Given as goal

abbrev pub invariant-loop-k : goal.invariant-loop-k
invariant-loop-k l = record {
  none : l.first ≡ None → (j : ℕ) → j < l.k → slice_get l.choice.chosen j ≡ Some None → ⊥;
  some : IfSome l.first (λ j. slice_get l.choice.chosen j ≡ Some None);
  least : 0 < l.least;
}
