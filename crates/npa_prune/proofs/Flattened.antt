-- The places of lists that are joined to one.
use Rattle.std.proofs.Common.{ap, ◌∙◌, ◌≡◌, ◌⊎◌, inl, inr, ⊎_elim, ℕ, zero, suc, ◌+◌, ◌<◌, List, [], ◌∷◌, ◌++◌, Some, length, take, drop, map, slice_get, refl, arith}
use Rattle.std.specs.List.{flat_map}
use Rattle.std.proofs.lemmas.Option.{same_Some, none-some}

-- a place behind a list
pub record IsBehind {X : Type 0} (xs ys : List X) (j : ℕ) (x : X) : Type 0 where
  pub k : ℕ
  pub place : length xs + k ≡ j
  pub at : slice_get ys k ≡ Some x

pub joined_at : {X : Type 0} (xs ys : List X) (j : ℕ) (x : X) → slice_get (xs ++ ys) j ≡ Some x → (slice_get xs j ≡ Some x) ⊎ IsBehind xs ys j x
joined_at [] ys j x e = inr (record { k = j; place = omega arith; at = e })
joined_at (z ∷ xs) ys zero x e = inl e
joined_at (z ∷ xs) ys (suc j) x e = ⊎_elim
    (λ a. inl a)
    (λ (b : IsBehind xs ys j x). inr (record { k = b.k; place = omega (arith, b.place); at = b.at }))
    (joined_at xs ys j x e)

-- where the results for the member at a place begin
abbrev pub start : {X Y : Type 0} → (X → List Y) → List X → ℕ → ℕ
start f [] k = 0
start f (x ∷ xs) zero = 0
start f (x ∷ xs) (suc k) = length (f x) + start f xs k

-- a place among the results is one for a member
pub record IsWithin {X Y : Type 0} (f : X → List Y) (xs : List X) (j : ℕ) (y : Y) : Type 0 where
  pub k : ℕ
  pub i : ℕ
  pub member : X
  pub there : slice_get xs k ≡ Some member
  pub at : slice_get (f member) i ≡ Some y
  pub place : start f xs k + i ≡ j

pub within : {X Y : Type 0} (f : X → List Y) (xs : List X) (j : ℕ) (y : Y) → slice_get (flat_map f xs) j ≡ Some y → IsWithin f xs j y
within f [] j y e = absurd (none-some y e)
within f (x ∷ xs) j y e = ⊎_elim
    (λ (a : slice_get (f x) j ≡ Some y). record { k = zero; i = j; member = x; there = refl; at = a; place = omega arith })
    (λ (b : IsBehind (f x) (flat_map f xs) j y).
    let rest = within f xs b.k y b.at in
    record { k = suc rest.k; i = rest.i; member = rest.member; there = rest.there; at = rest.at; place = omega (arith, b.place, rest.place) })
    (joined_at (f x) (flat_map f xs) j y e)

-- what stands at a place of a front stands there in the list
pub record IsInFront {X : Type 0} (n : ℕ) (xs : List X) (k : ℕ) (x : X) : Type 0 where
  pub before : k < n
  pub at : slice_get xs k ≡ Some x

pub in_front : {X : Type 0} (n : ℕ) (xs : List X) (k : ℕ) (x : X) → slice_get (take n xs) k ≡ Some x → IsInFront n xs k x
in_front zero xs k x e = absurd (none-some x e)
in_front (suc n) [] k x e = absurd (none-some x e)
in_front (suc n) (y ∷ xs) zero x e = record { before = omega arith; at = e }
in_front (suc n) (y ∷ xs) (suc k) x e = let rest = in_front n xs k x e in record { before = omega (arith, rest.before); at = rest.at }

pub drop_mapped : {X Y : Type 0} (f : X → Y) (n : ℕ) (xs : List X) → map f (drop n xs) ≡ drop n (map f xs)
drop_mapped f zero xs = refl
drop_mapped f (suc n) [] = refl
drop_mapped f (suc n) (x ∷ xs) = drop_mapped f n xs

-- the place of a member's result among all results
pub joined_behind : {X : Type 0} (xs ys : List X) (k : ℕ) (x : X) → slice_get ys k ≡ Some x → slice_get (xs ++ ys) (length xs + k) ≡ Some x
joined_behind [] ys k x e = ap (slice_get ys) (zero_plus k) ∙ e
  where
    zero_plus : (k : ℕ) → 0 + k ≡ k
    zero_plus k = omega arith
joined_behind (z ∷ xs) ys k x e = ap (slice_get (z ∷ xs ++ ys)) (one_more (length xs) k) ∙ joined_behind xs ys k x e
  where
    one_more : (n k : ℕ) → suc n + k ≡ suc (n + k)
    one_more n k = omega arith

pub joined_before : {X : Type 0} (xs ys : List X) (k : ℕ) (x : X) → slice_get xs k ≡ Some x → slice_get (xs ++ ys) k ≡ Some x
joined_before [] ys k x e = absurd (none-some x e)
joined_before (z ∷ xs) ys zero x e = e
joined_before (z ∷ xs) ys (suc k) x e = joined_before xs ys k x e

pub at_start : {X Y : Type 0} (f : X → List Y) (xs : List X) (k i : ℕ) (x : X) (y : Y) → slice_get xs k ≡ Some x → slice_get (f x) i ≡ Some y → slice_get (flat_map f xs) (start f xs k + i) ≡ Some y
at_start f [] k i x y e at = absurd (none-some x e)
at_start {X} f (z ∷ xs) zero i x y e at =
    ap (slice_get (flat_map f (z ∷ xs))) (zero_plus i)
    ∙ joined_before (f z) (flat_map f xs) i y (ap (λ (w : X). slice_get (f w) i) (same_Some z x e) ∙ at)
  where
    zero_plus : (k : ℕ) → 0 + k ≡ k
    zero_plus k = omega arith
at_start f (z ∷ xs) (suc k) i x y e at =
    ap (slice_get (flat_map f (z ∷ xs))) (regrouped (length (f z)) (start f xs k) i)
    ∙ joined_behind (f z) (flat_map f xs) (start f xs k + i) y (at_start f xs k i x y e at)
  where
    regrouped : (l m n : ℕ) → l + m + n ≡ l + (m + n)
    regrouped l m n = omega arith

-- different places of members' results are different places among all results
pub start_apart : {X Y : Type 0} (f : X → List Y) (xs : List X) (k l i j : ℕ) (x y : X) → slice_get xs k ≡ Some x → slice_get xs l ≡ Some y → i < length (f x) → j < length (f y) →
    start f xs k + i ≡ start f xs l + j → (k ≡ l) × (i ≡ j)
start_apart f [] k l i j x y e d p q same = absurd (none-some x e)
start_apart f (z ∷ xs) zero zero i j x y e d p q same = (refl, omega (arith, same))
start_apart {X} f (z ∷ xs) zero (suc l) i j x y e d p q same =
    let size : length (f z) ≡ length (f x) = ap (λ (w : X). length (f w)) (same_Some z x e) in
    let never : ⊥ = omega (arith, same, p, size) in absurd never
start_apart {X} f (z ∷ xs) (suc k) zero i j x y e d p q same =
    let size : length (f z) ≡ length (f y) = ap (λ (w : X). length (f w)) (same_Some z y d) in
    let never : ⊥ = omega (arith, same, q, size) in absurd never
start_apart f (z ∷ xs) (suc k) (suc l) i j x y e d p q same =
    let rest = start_apart f xs k l i j x y e d p q (omega (arith, same)) in
    (ap (λ n. suc n) rest.0, rest.1)
