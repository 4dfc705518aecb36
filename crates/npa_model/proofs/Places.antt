-- Members of lists by their places.
use Rattle.std.proofs.Common.{◌≡◌, ℕ, zero, suc, ◌+◌, ◌<◌, ⊎_elim, List, [], ◌∷◌, ◌++◌, Some, map, length, take, slice_get, slice_set, get_or, Contains, refl, ap, sym, ◌∙◌, arith}
use Rattle.std.proofs.lemmas.Option.{same_Some, none-some, slice_get_within, slice_get-get_or, get_or_from_slice_get}

-- a member stands at a place
pub place_of : {X : Type 0} (xs : List X) (x : X) → Contains xs x → (k : ℕ) × (slice_get xs k ≡ Some x)
place_of xs x c = (c.0, slice_get-get_or xs c.0 x c.1 ∙ ap Some c.2)

-- and what stands at a place is a member
pub member_at : {X : Type 0} (xs : List X) (k : ℕ) (x : X) → slice_get xs k ≡ Some x → Contains xs x
member_at xs k x e = (k, slice_get_within xs k x e, get_or_from_slice_get xs k x x e)

-- something stands at each place within the list
pub within_at : {X Y : Type 0} (xs : List X) (ys : List Y) (k : ℕ) (y : Y) → length xs ≡ length ys → slice_get ys k ≡ Some y → (x : X) × (slice_get xs k ≡ Some x)
within_at [] [] k y even e = absurd (none-some y e)
within_at [] (z ∷ ys) k y even e = absurd (omega (arith, even))
within_at (x ∷ xs) [] k y even e = absurd (none-some y e)
within_at (x ∷ xs) (z ∷ ys) zero y even e = (x, refl)
within_at (x ∷ xs) (z ∷ ys) (suc k) y even e = within_at xs ys k y (omega (arith, even)) e

-- what stands at a place of the results of a function is the result for what stands there
pub mapped_at : {X Y : Type 0} (f : X → Y) (xs : List X) (k : ℕ) (y : Y) → slice_get (map f xs) k ≡ Some y → (x : X) × (slice_get xs k ≡ Some x) × (f x ≡ y)
mapped_at f [] k y e = absurd (none-some y e)
mapped_at f (x ∷ xs) zero y e = (x, refl, same_Some (f x) y e)
mapped_at f (x ∷ xs) (suc k) y e = mapped_at f xs k y e

pub at_mapped : {X Y : Type 0} (f : X → Y) (xs : List X) (k : ℕ) (x : X) → slice_get xs k ≡ Some x → slice_get (map f xs) k ≡ Some (f x)
at_mapped f [] k x e = absurd (none-some x e)
at_mapped f (y ∷ xs) zero x e = ap (λ z. Some (f z)) (same_Some y x e)
at_mapped f (y ∷ xs) (suc k) x e = at_mapped f xs k x e

-- the same of members
pub member_mapped : {X Y : Type 0} (f : X → Y) (xs : List X) (x : X) → Contains xs x → Contains (map f xs) (f x)
member_mapped f xs x c = let p = place_of xs x c in member_at (map f xs) p.0 (f x) (at_mapped f xs p.0 x p.1)

pub mapped_member : {X Y : Type 0} (f : X → Y) (xs : List X) (y : Y) → Contains (map f xs) y → (x : X) × Contains xs x × (f x ≡ y)
mapped_member f xs y c =
    let p = place_of (map f xs) y c in
    let m = mapped_at f xs p.0 y p.1 in
    (m.0, member_at xs p.0 m.0 m.1, m.2)

-- a front has the list's members at its places
pub front_at : {X : Type 0} (n : ℕ) (xs : List X) (k : ℕ) → k < n → slice_get (take n xs) k ≡ slice_get xs k
front_at zero xs k l = absurd (omega (arith, l))
front_at (suc n) [] k l = refl
front_at (suc n) (x ∷ xs) zero l = refl
front_at (suc n) (x ∷ xs) (suc k) l = front_at n xs k (omega (arith, l))

pub front_mapped : {X Y : Type 0} (f : X → Y) (n : ℕ) (xs : List X) → take n (map f xs) ≡ map f (take n xs)
front_mapped f zero xs = refl
front_mapped f (suc n) [] = refl
front_mapped f (suc n) (x ∷ xs) = ap (λ ys. f x ∷ ys) (front_mapped f n xs)

-- a list in which one place is set
pub length_set : {X : Type 0} (xs : List X) (k : ℕ) (y : X) → length (slice_set xs k y) ≡ length xs
length_set [] k y = refl
length_set (x ∷ xs) zero y = refl
length_set (x ∷ xs) (suc k) y = ap (λ n. suc n) (length_set xs k y)

pub set_here : {X : Type 0} (xs : List X) (k : ℕ) (x y : X) → slice_get xs k ≡ Some x → slice_get (slice_set xs k y) k ≡ Some y
set_here [] k x y e = absurd (none-some x e)
set_here (z ∷ xs) zero x y e = refl
set_here (z ∷ xs) (suc k) x y e = set_here xs k x y e

pub set_elsewhere : {X : Type 0} (xs : List X) (k j : ℕ) (y : X) → (j ≡ k → ⊥) → slice_get (slice_set xs k y) j ≡ slice_get xs j
set_elsewhere [] k j y n = refl
set_elsewhere (x ∷ xs) zero zero y n = absurd (n refl)
set_elsewhere (x ∷ xs) zero (suc j) y n = refl
set_elsewhere (x ∷ xs) (suc k) zero y n = refl
set_elsewhere (x ∷ xs) (suc k) (suc j) y n = set_elsewhere xs k j y (λ e. n (ap (λ m. suc m) e))
