-- Members of lists and what holds of each of them.
use Rattle.std.proofs.Common.{◌≡◌, ℕ, zero, suc, ◌<◌, length, get_or, List, [], ◌∷◌, ◌++◌, map, refl, sym, ◌∙◌, ap, subst, inl, inr, arith}
use Rattle.std.specs.Prelude.{⊤, All, Contains, ◌⊎◌, flat_map}
use Rattle.std.proofs.lemmas.List.Elements.{Contains-append_left, Contains-append_right, Contains-append_cases}

pub here : {X : Type 0} (x : X) (xs : List X) → Contains (x ∷ xs) x
here x xs = (zero, omega arith, refl)

pub later : {X : Type 0} (x y : X) (xs : List X) → Contains xs y → Contains (x ∷ xs) y
later x y xs c = (suc c.0, omega (arith, c.1), c.2)

pub nowhere : {X : Type 0} (x : X) → Contains [] x → ⊥
nowhere x c = omega (arith, c.1)

pub member_cases : {X : Type 0} (x y : X) (xs : List X) → Contains (x ∷ xs) y → (x ≡ y) ⊎ Contains xs y
member_cases x y xs (zero, small, is) = inl is
member_cases x y xs (suc k, small, is) = inr (k, omega (arith, small), is)

pub only_one : {X : Type 0} (x y : X) → Contains (x ∷ []) y → x ≡ y
only_one x y c = elim (member_cases x y [] c) [ inl e ↦ e | inr d ↦ absurd (nowhere y d) ]

-- P holds of each member, by cases on the list
abbrev pub EachOf : {X : Type 0} → (X → Type 0) → List X → Type 0
EachOf P [] = ⊤
EachOf P (x ∷ xs) = P x × EachOf P xs

pub each_member : {X : Type 0} (P : X → Type 0) (xs : List X) (x : X) → EachOf P xs → Contains xs x → P x
each_member P [] x each c = absurd (nowhere x c)
each_member P (y ∷ ys) x each c = elim (member_cases y x ys c) [ inl e ↦ subst P e each.0 | inr d ↦ each_member P ys x each.1 d ]

pub each_from : {X : Type 0} (P : X → Type 0) (xs : List X) → ((x : X) → Contains xs x → P x) → EachOf P xs
each_from P [] all = tt
each_from P (x ∷ xs) all = (all x (here x xs), each_from P xs (λ y c. all y (later x y xs c)))

pub each_along : {X : Type 0} (P Q : X → Type 0) → ((x : X) → P x → Q x) → (xs : List X) → EachOf P xs → EachOf Q xs
each_along P Q f [] each = tt
each_along P Q f (x ∷ xs) each = (f x each.0, each_along P Q f xs each.1)

pub each_map : {X Y : Type 0} (P : Y → Type 0) (f : X → Y) (xs : List X) → ((x : X) → Contains xs x → P (f x)) → EachOf P (map f xs)
each_map P f [] all = tt
each_map P f (x ∷ xs) all = (all x (here x xs), each_map P f xs (λ y c. all y (later x y xs c)))

pub flat_map_each : {X Y : Type 0} (f g : X → List Y) (xs : List X) → EachOf (λ x. f x ≡ g x) xs → flat_map f xs ≡ flat_map g xs
flat_map_each f g [] each = refl
flat_map_each f g (x ∷ xs) each = ap (λ ys. ys ++ flat_map f xs) each.0 ∙ ap (λ ys. g x ++ ys) (flat_map_each f g xs each.1)

pub flat_map_member : {X Y : Type 0} (f : X → List Y) (xs : List X) (y : Y) → Contains (flat_map f xs) y → (x : X) × Contains xs x × Contains (f x) y
flat_map_member f [] y c = absurd (nowhere y c)
flat_map_member f (x ∷ xs) y c =
    elim (Contains-append_cases (f x) (flat_map f xs) y c) [
      | inl d ↦ (x, here x xs, d)
      | inr d ↦ let rest = flat_map_member f xs y d in (rest.0, later x rest.0 xs rest.1, rest.2)
    ]

pub member_flat_map : {X Y : Type 0} (f : X → List Y) (xs : List X) (x : X) (y : Y) → Contains xs x → Contains (f x) y → Contains (flat_map f xs) y
member_flat_map f [] x y c d = absurd (nowhere x c)
member_flat_map f (z ∷ zs) x y c d =
    elim (member_cases z x zs c) [
      | inl e ↦ Contains-append_left (f z) (flat_map f zs) y (subst (λ w. Contains (f w) y) (sym e) d)
      | inr e ↦ Contains-append_right (f z) (flat_map f zs) y (member_flat_map f zs x y e d)
    ]

pub map_member : {X Y : Type 0} (f : X → Y) (xs : List X) (y : Y) → Contains (map f xs) y → (x : X) × Contains xs x × (f x ≡ y)
map_member f [] y c = absurd (nowhere y c)
map_member f (x ∷ xs) y c =
    elim (member_cases (f x) y (map f xs) c) [
      | inl e ↦ (x, here x xs, e)
      | inr d ↦ let rest = map_member f xs y d in (rest.0, later x rest.0 xs rest.1, rest.2)
    ]

pub member_map : {X Y : Type 0} (f : X → Y) (xs : List X) (x : X) → Contains xs x → Contains (map f xs) (f x)
member_map f [] x c = absurd (nowhere x c)
member_map f (z ∷ zs) x c =
    elim (member_cases z x zs c) [
      | inl e ↦ subst (λ w. Contains (map f (z ∷ zs)) (f w)) e (here (f z) (map f zs))
      | inr d ↦ later (f z) (f x) (map f zs) (member_map f zs x d)
    ]

pub member_at : {X : Type 0} (xs : List X) (i : ℕ) (d : X) → i < length xs → Contains xs (get_or xs i d)
member_at [] i d small = absurd (let none : ⊥ = omega (arith, small) in none)
member_at (x ∷ xs) zero d small = here x xs
member_at (x ∷ xs) (suc i) d small = later x (get_or xs i d) xs (member_at xs i d (omega (arith, small)))

pub all_from : {X : Type 0} (P : X → Type 0) (xs : List X) → ((x : X) → Contains xs x → P x) → All P xs
all_from P xs all k d small = all (get_or xs k d) (member_at xs k d small)
