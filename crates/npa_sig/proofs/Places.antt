-- What holds of the members at the first places of a list.
use Rattle.std.proofs.Common.{◌≡◌, ℕ, ◌<◌, List, Some}
use Rattle.std.specs.Prelude.{slice_get}

abbrev pub HoldUpTo : {X : Type 0} → (X → Type 0) → ℕ → List X → Type 0
HoldUpTo {X} P n xs = (k : ℕ) (x : X) → k < n → slice_get xs k ≡ Some x → P x
