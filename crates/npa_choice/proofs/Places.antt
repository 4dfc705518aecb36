-- Members of lists by their places.
use Rattle.std.proofs.Common.{◌≡◌, ℕ, zero, suc, ◌<◌, inl, inr, List, [], ◌∷◌, Option, None, Some, length, replicate, map, slice_get, slice_set, Contains, refl, ap, sym, arith}
use Rattle.std.specs.Prelude.{◌⊎◌}
use Rattle.std.proofs.lemmas.Option.{same_Some, none-some}
use Rattle.std.proofs.lemmas.List.Elements.{Contains-append_cases}
use Rattle.npa_choice.specs.Partial.{waiting, placed}

pub contains_one : {X : Type 0} (x y : X) → Contains (x ∷ []) y → x ≡ y
contains_one x y (zero, l, e) = e
contains_one x y (suc k, l, e) = absurd (let no : ⊥ = omega (arith, l) in no)

pub contains_cases : {X : Type 0} (x : X) (xs : List X) (y : X) → Contains (x ∷ xs) y → (x ≡ y) ⊎ Contains xs y
contains_cases x xs y h = elim (Contains-append_cases (x ∷ []) xs y h) [ inl one ↦ inl (contains_one x y one) | inr more ↦ inr more ]

-- something stands at each place within the list
pub within_at : {X : Type 0} (xs : List X) (k : ℕ) → k < length xs → (x : X) × (slice_get xs k ≡ Some x)
within_at [] k l = absurd (let no : ⊥ = omega (arith, l) in no)
within_at (x ∷ xs) zero l = (x, refl)
within_at (x ∷ xs) (suc k) l = within_at xs k (omega (arith, l))

-- what stands at a place of the results of a function is the result for what stands there
pub mapped_at : {X Y : Type 0} (f : X → Y) (xs : List X) (k : ℕ) (y : Y) → slice_get (map f xs) k ≡ Some y → (x : X) × (slice_get xs k ≡ Some x) × (f x ≡ y)
mapped_at f [] k y e = absurd (none-some y e)
mapped_at f (x ∷ xs) zero y e = (x, refl, same_Some (f x) y e)
mapped_at f (x ∷ xs) (suc k) y e = mapped_at f xs k y e

pub at_mapped : {X Y : Type 0} (f : X → Y) (xs : List X) (k : ℕ) (x : X) → slice_get xs k ≡ Some x → slice_get (map f xs) k ≡ Some (f x)
at_mapped f [] k x e = absurd (none-some x e)
at_mapped f (y ∷ xs) zero x e = ap (λ z. Some (f z)) (same_Some y x e)
at_mapped f (y ∷ xs) (suc k) x e = at_mapped f xs k x e

-- a list in which one place is set
pub length_set : {X : Type 0} (xs : List X) (k : ℕ) (y : X) → length (slice_set xs k y) ≡ length xs
length_set [] k y = refl
length_set (x ∷ xs) zero y = refl
length_set (x ∷ xs) (suc k) y = ap (λ n. suc n) (length_set xs k y)

pub set_here : {X : Type 0} (xs : List X) (k : ℕ) (x y : X) → slice_get xs k ≡ Some x → slice_get (slice_set xs k y) k ≡ Some y
set_here [] k x y e = absurd (none-some x e)
set_here (z ∷ xs) zero x y e = refl
set_here (z ∷ xs) (suc k) x y e = set_here xs k x y e

pub set_elsewhere : {X : Type 0} (xs : List X) (k j : ℕ) (y : X) → (j ≡ k → ⊥) → slice_get (slice_set xs k y) j ≡ slice_get xs j
set_elsewhere [] k j y n = refl
set_elsewhere (x ∷ xs) zero zero y n = absurd (n refl)
set_elsewhere (x ∷ xs) zero (suc j) y n = refl
set_elsewhere (x ∷ xs) (suc k) zero y n = refl
set_elsewhere (x ∷ xs) (suc k) (suc j) y n = set_elsewhere xs k j y (λ e. n (ap (λ m. suc m) e))

pub at_replicate : {X : Type 0} (n : ℕ) (x : X) (k : ℕ) (y : X) → slice_get (replicate n x) k ≡ Some y → x ≡ y
at_replicate zero x k y e = absurd (none-some y e)
at_replicate (suc n) x zero y e = same_Some x y e
at_replicate (suc n) x (suc k) y e = at_replicate n x k y e

-- whether two numbers are equal
pub equal_or : (m n : ℕ) → (m ≡ n) ⊎ (m ≡ n → ⊥)
equal_or zero zero = inl refl
equal_or zero (suc n) = inr (λ e. omega (arith, e))
equal_or (suc m) zero = inr (λ e. omega (arith, e))
equal_or (suc m) (suc n) = elim (equal_or m n) [ inl e ↦ inl (ap (λ k. suc k) e) | inr ne ↦ inr (λ e. ne (omega (arith, e))) ]

-- one asker less waits
pub waits_less : (xs : List (Option ℕ)) (k n : ℕ) → slice_get xs k ≡ Some None → waiting (slice_set xs k (Some n)) < waiting xs
waits_less [] k n e = absurd (none-some None e)
waits_less (None ∷ xs) zero n e = omega arith
waits_less (Some m ∷ xs) zero n e = absurd (none-some m (sym (same_Some (Some m) None e)))
waits_less (None ∷ xs) (suc k) n e = let less = waits_less xs k n e in omega (arith, less)
waits_less (Some m ∷ xs) (suc k) n e = waits_less xs k n e

pub placed_is : (place : Option ℕ) (n : ℕ) → Contains (placed place) n → place ≡ Some n
placed_is None n c = absurd (let no : ⊥ = omega (arith, c.1) in no)
placed_is (Some m) n c = ap Some (contains_one m n c)

pub is_placed : (place : Option ℕ) (n : ℕ) → place ≡ Some n → Contains (placed place) n
is_placed None n e = absurd (none-some n e)
is_placed (Some m) n e = (0, omega arith, same_Some m n e)
