-- What holds of all members of a list, member by member.
use Rattle.std.proofs.Common.{◌≡◌, ℕ, ◌+◌, ◌<◌, ◌≤◌, Bool, true, false, List, [], ◌∷◌, length, take, get_or, refl, sym, subst, inl, inr}
use Rattle.std.specs.Prelude.{Contains, ◌↔◌, IsTrue}
use Rattle.std.proofs.lemmas.List.{take_more, take_all}
use Rattle.std.proofs.lemmas.List.Elements.{Contains-append_cases}
use Rattle.npa_unify.proofs.Members.{member_at, only_one}

pub more_members : {X : Type 0} (P : X → Type 0) (xs : List X) (i : ℕ) (d : X) → i < length xs → ((x : X) → Contains (take i xs) x → P x) → P (get_or xs i d) →
    (x : X) → Contains (take (i + 1) xs) x → P x
more_members P xs i d small before new x c =
    elim (Contains-append_cases (take i xs) (get_or xs i d ∷ []) x (subst (λ l. Contains l x) (take_more xs i d small) c)) [
      | inl b ↦ before x b
      | inr e ↦ subst P (only_one (get_or xs i d) x e) new
    ]

pub all_members : {X : Type 0} (P : X → Type 0) (xs : List X) (i : ℕ) → length xs ≤ i → ((x : X) → Contains (take i xs) x → P x) → (x : X) → Contains xs x → P x
all_members P xs i most before x c = before x (subst (λ l. Contains l x) (sym (take_all i xs most)) c)

pub refuted : {X : Type 0} (P : X → Type 0) (xs : List X) (i : ℕ) (d : X) (b : Bool) → i < length xs → b ≡ false → IsTrue b ↔ P (get_or xs i d) →
    IsTrue false ↔ ((x : X) → Contains xs x → P x)
refuted P xs i d b small e test = (λ f. cc, λ all. let no : IsTrue b = test.1 (all (get_or xs i d) (member_at xs i d small)) in absurd (differ b e no))
  where
    differ : (b : Bool) → b ≡ false → IsTrue b → ⊥
    differ b e f = cc

pub shown : {X : Type 0} (P : X → Type 0) (xs : List X) (i : ℕ) → length xs ≤ i → ((x : X) → Contains (take i xs) x → P x) → IsTrue true ↔ ((x : X) → Contains xs x → P x)
shown P xs i most before = (λ e. all_members P xs i most before, λ all. refl)
