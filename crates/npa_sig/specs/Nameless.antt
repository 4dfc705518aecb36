-- The sorts whose terms can carry fresh names.
use Rattle.std.specs.Prelude.{◌≡◌, ℕ, ◌+◌, Bool, true, false, not, ◌&&◌, ◌||◌, List, [], ◌∷◌, Some, get_or, length, slice_get, ◌↔◌}
use Rattle.npa_sorts.specs.Subsorts.{IsAtOrBelow}
use Rattle.npa_sig.specs.declared.signature.OpDecl.{OpDecl}
use Rattle.npa_sig.specs.Signature.{Signature}

-- A sort carries names where it is `Fresh`, or where an operator whose result sort is at or below it
-- has an argument sort that carries names; no other sort does (the least set that is closed under
-- these rules: Aczel 1977, on inductive definitions).
pub data CarriesNames (sig : Signature) : ℕ → Type 0 where
  fresh_names : CarriesNames sig 1
  through : (num : ℕ) (decl : OpDecl) (k a s : ℕ) → slice_get sig.ops num ≡ Some decl →
      slice_get decl.args k ≡ Some a → CarriesNames sig a → IsAtOrBelow sig.sorts decl.result s →
      CarriesNames sig s

-- A mark for each sort, at those that carry names.
pub record AreCarriers (sig : Signature) (marks : List Bool) : Type 0 where
  pub long : length marks ≡ sig.sorts.declared + 2
  pub exact : (s : ℕ) → (get_or marks s false ≡ true) ↔ CarriesNames sig s

-- whether one of these sorts is marked
abbrev pub any_marked : List Bool → List ℕ → Bool
any_marked marks [] = false
any_marked marks (s ∷ ss) = get_or marks s false || any_marked marks ss

-- whether the result sort of an operator has no mark yet and one of its argument sorts has
abbrev pub hands_names : List Bool → OpDecl → Bool
hands_names marks decl = not (get_or marks decl.result false) && any_marked marks decl.args
