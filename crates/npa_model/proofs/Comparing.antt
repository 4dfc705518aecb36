-- Lists whose members are tested one after another.
use Rattle.std.proofs.Common.{◌≡◌, ℕ, ◌+◌, ◌<◌, ◌≤◌, ◌↔◌, Bool, true, false, Result, Ok, Err, List, [], ◌∷◌, ◌++◌, Some, map, length, take, get_or, slice_get, Contains, refl, ap, sym, ◌∙◌, subst, ⊎_elim, arith}
use Rattle.std.specs.Prelude.{IsTrue, IfOk}
use Rattle.std.proofs.lemmas.List.{take_more, take_all}
use Rattle.std.proofs.lemmas.List.Elements.{Contains-push_cases}
use Rattle.std.proofs.lemmas.Option.{same_Some, slice_get-get_or}
use Rattle.npa_model.proofs.Places.{at_mapped}

pub untrue : IsTrue false → ⊥
untrue t = let no : false ≡ true = t in cc

-- what a test answers, where it answers
pub if_ok : {P Q : Bool → Type 0} {E : Type 0} (r : Result Bool E) → IfOk r P → ((b : Bool) → P b → Q b) → IfOk r Q
if_ok (Ok b) p f = f b p
if_ok (Err e) p f = tt

-- a test that fails denies
pub denied : {P : Type 0} (b : Bool) → IsTrue b ↔ P → b ≡ false → P → ⊥
denied b both e p = let no : false ≡ true = sym e ∙ both.1 p in cc

module _ {X : Type 0} (P : X → Type 0) (xs : List X) (i : ℕ) (x : X) where
  -- one more member
  pub all_more : i < length xs → x ≡ get_or xs i x → P x → ((y : X) → Contains (take i xs) y → P y) → (y : X) → Contains (take (i + 1) xs) y → P y
  all_more l e p each y c = ⊎_elim
      (each y)
      (λ (s : get_or xs i x ≡ y). subst P (e ∙ s) p)
      (Contains-push_cases (take i xs) (get_or xs i x) y (subst (λ (ys : List X). Contains ys y) (take_more xs i x l) c))

  -- a member that fails
  pub one_fails : i < length xs → x ≡ get_or xs i x → (P x → ⊥) → ((y : X) → Contains xs y → P y) → ⊥
  one_fails l e fails each = fails (each x (i, l, sym e))

-- all members
pub all_done : {X : Type 0} (P : X → Type 0) (xs : List X) (i : ℕ) → length xs ≤ i → ((y : X) → Contains (take i xs) y → P y) → (y : X) → Contains xs y → P y
all_done {X} P xs i l each y c = each y (subst (λ (ys : List X). Contains ys y) (sym (take_all i xs l)) c)

-- results differ where one does
pub maps_differ : {X Y Z : Type 0} (f : X → Z) (g : Y → Z) (xs : List X) (ys : List Y) (i : ℕ) (x : X) (y : Y) → i < length xs → length xs ≡ length ys → x ≡ get_or xs i x → y ≡ get_or ys i y → (f x ≡ g y → ⊥) → map f xs ≡ map g ys → ⊥
maps_differ {Z = Z} f g xs ys i x y l even e d differ same =
    let first = at_mapped f xs i x (slice_get-get_or xs i x l ∙ ap Some (sym e)) in
    let second = at_mapped g ys i y (slice_get-get_or ys i y (omega (arith, l, even)) ∙ ap Some (sym d)) in
    differ (same_Some (f x) (g y) (sym first ∙ ap (λ (zs : List Z). slice_get zs i) same ∙ second))
