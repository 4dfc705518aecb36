-- Lists that are searched for a member of which something holds.
use Rattle.std.proofs.Common.{◌≡◌, ℕ, ◌+◌, ◌<◌, ◌≤◌, ◌↔◌, Bool, true, false, Result, Ok, Err, List, length, take, get_or, Contains, refl, sym}
use Rattle.std.specs.Prelude.{IsTrue, IfOk}
use Rattle.npa_model.proofs.Comparing.{untrue, all_more, all_done}

-- such a member
abbrev pub HasOne : {X : Type 0} → (X → Type 0) → List X → Type 0
HasOne {X} P xs = (x : X) × Contains xs x × P x

module _ {X : Type 0} (P : X → Type 0) (xs : List X) (i : ℕ) where
  pub one_found : (x : X) → i < length xs → x ≡ get_or xs i x → P x → HasOne P xs
  one_found x l e p = (x, (i, l, sym e), p)

  -- no member so far, and none at the next place
  pub none_more : (x : X) → i < length xs → x ≡ get_or xs i x → (P x → ⊥) → ((y : X) → Contains (take i xs) y → P y → ⊥) → (y : X) → Contains (take (i + 1) xs) y → P y → ⊥
  none_more x l e fails none = all_more (λ y. P y → ⊥) xs i x l e fails none

  -- no member at all
  pub none_found : length xs ≤ i → ((y : X) → Contains (take i xs) y → P y → ⊥) → HasOne P xs → ⊥
  none_found l none one = all_done (λ y. P y → ⊥) xs i l none one.0 one.1 one.2

-- what is told at the end of a search
pub told_true : {P : Type 0} → P → IsTrue true ↔ P
told_true p = (λ t. p, λ q. refl)

pub told_false : {P : Type 0} → (P → ⊥) → IsTrue false ↔ P
told_false none = (λ t. absurd (untrue t), λ p. absurd (none p))

-- the answer of a test, told in other words
pub told_as : {P Q : Type 0} (b : Bool) → IsTrue b ↔ P → (P → Q) → (Q → P) → IsTrue b ↔ Q
told_as b both to from = (λ t. to (both.0 t), λ q. both.1 (from q))

pub told_ok : {P Q : Type 0} {E : Type 0} (r : Result Bool E) → IfOk r (λ b. IsTrue b ↔ P) → (P → Q) → (Q → P) → IfOk r (λ b. IsTrue b ↔ Q)
told_ok (Ok b) both to from = told_as b both to from
told_ok (Err e) both to from = tt
