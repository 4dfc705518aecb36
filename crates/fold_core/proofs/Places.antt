-- Lemmas on what stands at a place of a list.
use Rattle.std.proofs.Common.{◌≡◌, ◌≢◌, ◌⊎◌, inl, inr, ℕ, zero, suc, ◌+◌, ◌<◌, Bool, true, false, List, [], ◌∷◌, ◌++◌, length, map, set, None, Some, slice_get, refl, ap, subst, arith, cond}
use Rattle.std.specs.List.{position_from}
use Rattle.fold_core.specs.Machine.{Stands}

slice_old : {X : Type 0} (xs ys : List X) (n : ℕ) (x : X) → slice_get xs n ≡ Some x → slice_get (xs ++ ys) n ≡ Some x
slice_old [] ys n x e = cc
slice_old (z ∷ xs) ys zero x e = e
slice_old (z ∷ xs) ys (suc n) x e = slice_old xs ys n x e

slice_new : {X : Type 0} (xs : List X) (x : X) → slice_get (xs ++ x ∷ []) (length xs) ≡ Some x
slice_new [] x = refl
slice_new (z ∷ xs) x = slice_new xs x

slice_append : {X : Type 0} (xs : List X) (y : X) (n : ℕ) (x : X) → slice_get (xs ++ y ∷ []) n ≡ Some x → (slice_get xs n ≡ Some x) ⊎ ((n ≡ length xs) × (x ≡ y))
slice_append [] y zero x e = inr (refl, cc)
slice_append [] y (suc n) x e = inl e
slice_append (z ∷ xs) y zero x e = inl e
slice_append (z ∷ xs) y (suc n) x e = elim (slice_append xs y n x e) [ inl a ↦ inl a | inr b ↦ inr (ap suc b.0, b.1) ]

slice_map : {X Y : Type 0} (f : X → Y) (xs : List X) (n : ℕ) (x : X) → slice_get xs n ≡ Some x → slice_get (map f xs) n ≡ Some (f x)
slice_map f [] n x e = cc
slice_map f (z ∷ xs) zero x e = cc
slice_map f (z ∷ xs) (suc n) x e = slice_map f xs n x e

slice_unmap : {X Y : Type 0} (f : X → Y) (xs : List X) (n : ℕ) (y : Y) → slice_get (map f xs) n ≡ Some y → (x : X) × (slice_get xs n ≡ Some x) × (y ≡ f x)
slice_unmap f [] n y e = cc
slice_unmap f (z ∷ xs) zero y e = (z, refl, cc)
slice_unmap f (z ∷ xs) (suc n) y e = slice_unmap f xs n y e

slice_set_same : {X : Type 0} (xs : List X) (n : ℕ) (x y : X) → slice_get xs n ≡ Some x → slice_get (set xs n y) n ≡ Some y
slice_set_same [] n x y e = cc
slice_set_same (z ∷ xs) zero x y e = refl
slice_set_same (z ∷ xs) (suc n) x y e = slice_set_same xs n x y e

-- Where one element of a list is set, what stands there now stood there before, or is the new one.
slice_unset : {X : Type 0} (xs : List X) (n : ℕ) (y : X) (m : ℕ) (x : X) → slice_get (set xs n y) m ≡ Some x → ((m ≢ n) × (slice_get xs m ≡ Some x)) ⊎ ((m ≡ n) × (x ≡ y))
slice_unset [] n y m x e = cc
slice_unset (z ∷ xs) zero y zero x e = inr (refl, cc)
slice_unset (z ∷ xs) zero y (suc m) x e = inl ((λ p. omega arith), e)
slice_unset (z ∷ xs) (suc n) y zero x e = inl ((λ p. omega arith), e)
slice_unset (z ∷ xs) (suc n) y (suc m) x e = elim (slice_unset xs n y m x e) [ inl a ↦ inl ((λ p. a.0 (omega arith)), a.1) | inr b ↦ inr (ap suc b.0, b.1) ]

slice_set_other : {X : Type 0} (xs : List X) (n : ℕ) (y : X) (m : ℕ) (x : X) → m ≢ n → slice_get xs m ≡ Some x → slice_get (set xs n y) m ≡ Some x
slice_set_other [] n y m x d e = e
slice_set_other (z ∷ xs) zero y zero x d e = absurd (d refl)
slice_set_other (z ∷ xs) zero y (suc m) x d e = e
slice_set_other (z ∷ xs) (suc n) y zero x d e = e
slice_set_other (z ∷ xs) (suc n) y (suc m) x d e = slice_set_other xs n y m x (λ p. d (ap suc p)) e

slice_within : {X : Type 0} (xs : List X) (n : ℕ) (x : X) → slice_get xs n ≡ Some x → n < length xs
slice_within [] n x e = cc
slice_within (z ∷ xs) zero x e = omega arith
slice_within (z ∷ xs) (suc n) x e = let h = slice_within xs n x e in omega arith

pub stands_one : {X : Type 0} {xs : List X} {n : ℕ} {x y : X} → Stands xs n x → Stands xs n y → x ≡ y
stands_one s t = let e = s.is in let f = t.is in cc

pub stands_within : {X : Type 0} {xs : List X} {n : ℕ} {x : X} → Stands xs n x → n < length xs
stands_within s = slice_within _ _ _ s.is

pub stands_old : {X : Type 0} {xs : List X} {n : ℕ} {x : X} (ys : List X) → Stands xs n x → Stands (xs ++ ys) n x
stands_old {xs = xs} {n = n} ys s = record { is = slice_old xs ys n _ s.is }

pub stands_new : {X : Type 0} (xs : List X) (x : X) → Stands (xs ++ x ∷ []) (length xs) x
stands_new xs x = record { is = slice_new xs x }

pub stands_append : {X : Type 0} (xs : List X) (y : X) (n : ℕ) (x : X) → Stands (xs ++ y ∷ []) n x → Stands xs n x ⊎ ((n ≡ length xs) × (x ≡ y))
stands_append xs y n x s = elim (slice_append xs y n x s.is) [ inl a ↦ inl (record { is = a }) | inr b ↦ inr b ]

pub stands_map : {X Y : Type 0} (f : X → Y) {xs : List X} {n : ℕ} {x : X} → Stands xs n x → Stands (map f xs) n (f x)
stands_map f {xs = xs} {n = n} s = record { is = slice_map f xs n _ s.is }

pub stands_unmap : {X Y : Type 0} (f : X → Y) (xs : List X) (n : ℕ) (y : Y) → Stands (map f xs) n y → (x : X) × Stands xs n x × (y ≡ f x)
stands_unmap f xs n y s = let u = slice_unmap f xs n y s.is in (u.0, record { is = u.1 }, u.2)

pub stands_set_same : {X : Type 0} {xs : List X} {n : ℕ} {x : X} (y : X) → Stands xs n x → Stands (set xs n y) n y
stands_set_same {xs = xs} {n = n} y s = record { is = slice_set_same xs n _ y s.is }

pub stands_set_other : {X : Type 0} {xs : List X} {m : ℕ} {x : X} (n : ℕ) (y : X) → m ≢ n → Stands xs m x → Stands (set xs n y) m x
stands_set_other n y d s = record { is = slice_set_other _ n y _ _ d s.is }

pub stands_unset : {X : Type 0} (xs : List X) (n : ℕ) (y : X) (m : ℕ) (x : X) → Stands (set xs n y) m x → ((m ≢ n) × Stands xs m x) ⊎ ((m ≡ n) × (x ≡ y))
stands_unset xs n y m x s = elim (slice_unset xs n y m x s.is) [ inl a ↦ inl (a.0, record { is = a.1 }) | inr b ↦ inr b ]

-- What `position_from` finds: the first element that passes, its place counted from i.
pub record FirstAt {X : Type 0} (p : X → Bool) (i : ℕ) (xs : List X) (n : ℕ) : Type 0 where
  pub place : ℕ
  pub place_is : n ≡ i + place
  pub element : X
  pub stands : Stands xs place element
  pub passes : p element ≡ true

pub position_some : {X : Type 0} (p : X → Bool) (i : ℕ) (xs : List X) (n : ℕ) → position_from p i xs ≡ Some n → FirstAt p i xs n
position_some p i [] n e = cc
position_some p i (x ∷ xs) n e =
    elim (p x) as (λ b. p x ≡ b → cond b (Some i) (position_from p (i + 1) xs) ≡ Some n → FirstAt p i (x ∷ xs) n) [
      | true ↦ λ t s. record { place = 0; place_is = (let q : i ≡ n = cc in omega arith); element = x; stands = record { is = refl }; passes = t }
      | false ↦ λ t s. let f = position_some p (i + 1) xs n s in
          record { place = suc f.place; place_is = (let q = f.place_is in omega arith); element = f.element; stands = record { is = f.stands.is }; passes = f.passes }
    ]
    refl e

pub position_none : {X : Type 0} (p : X → Bool) (i : ℕ) (xs : List X) → position_from p i xs ≡ None → (n : ℕ) (x : X) → Stands xs n x → p x ≡ false
position_none p i [] e n x s = let h = s.is in cc
position_none p i (z ∷ xs) e zero x s =
    elim (p z) as (λ b. p z ≡ b → cond b (Some i) (position_from p (i + 1) xs) ≡ None → p x ≡ false) [
      | true ↦ λ t f. cc
      | false ↦ λ t f. let h = s.is in let same : z ≡ x = cc in subst (λ w. p w ≡ false) same t
    ]
    refl e
position_none p i (z ∷ xs) e (suc n) x s =
    elim (p z) as (λ b. cond b (Some i) (position_from p (i + 1) xs) ≡ None → p x ≡ false) [
      | true ↦ λ f. cc
      | false ↦ λ f. position_none p (i + 1) xs f n x (record { is = s.is })
    ]
    e
