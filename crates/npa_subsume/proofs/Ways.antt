-- Lists of members of a list, and places that differ.
use Rattle.std.proofs.Common.{◌≡◌, ℕ, zero, suc, ◌+◌, inl, inr, Bool, true, false, not, nat_eq, List, [], ◌∷◌, Option, None, Some, length, slice_get, Contains, zip, refl, ap, sym, ◌∙◌, subst, arith}
use Rattle.std.specs.Prelude.{IfSome}
use Rattle.std.specs.Option.{is_some}
use Rattle.std.specs.List.{enumerate_from, flat_map, list_all, list_any}
use Rattle.std.proofs.lemmas.Bool.{and_parts, and_from, or_left, or_right, or_cases, eqb-true, eq-eqb, not-true, not_from_false, false_from_ne_true, true≢false}
use Rattle.std.proofs.lemmas.List.Elements.{Contains-append_left, Contains-append_right, Contains-append_cases}
use Rattle.std.proofs.lemmas.Option.{same_Some, none-some}
use Rattle.npa_choice.proofs.Places.{contains_cases}
use Rattle.npa_term.proofs.Numbered.{member_first, member_later}
use Rattle.npa_model.proofs.Places.{place_of, member_at, mapped_member, member_mapped}
use Rattle.npa_subsume.specs.Testing.{behind, rows_of, are_different}

-- ## Tests of members

pub any_to : {X : Type 0} (p : X → Bool) (xs : List X) → list_any p xs ≡ true → (x : X) × Contains xs x × (p x ≡ true)
any_to p [] e = absurd (true≢false (sym e))
any_to p (x ∷ xs) e = elim (or_cases (p x) (list_any p xs) e) [
  | inl here ↦ (x, member_first x xs, here)
  | inr later ↦ let rest = any_to p xs later in (rest.0, member_later x rest.0 xs rest.1, rest.2)
]

pub any_from : {X : Type 0} (p : X → Bool) (xs : List X) (x : X) → Contains xs x → p x ≡ true → list_any p xs ≡ true
any_from p [] x c e = absurd (let no : ⊥ = omega (arith, c.1) in no)
any_from p (y ∷ xs) x c e = elim (contains_cases y xs x c) [
  | inl is ↦ or_left (p y) (list_any p xs) (ap p is ∙ e)
  | inr later ↦ or_right (p y) (list_any p xs) (any_from p xs x later e)
]

pub all_to : {X : Type 0} (p : X → Bool) (xs : List X) → list_all p xs ≡ true → (x : X) → Contains xs x → p x ≡ true
all_to p [] e x c = absurd (let no : ⊥ = omega (arith, c.1) in no)
all_to p (y ∷ xs) e x c =
    let both = and_parts (p y) (list_all p xs) e in
    elim (contains_cases y xs x c) [ inl is ↦ ap p (sym is) ∙ both.0 | inr later ↦ all_to p xs both.1 x later ]

pub all_from : {X : Type 0} (p : X → Bool) (xs : List X) → ((x : X) → Contains xs x → p x ≡ true) → list_all p xs ≡ true
all_from p [] each = refl
all_from p (x ∷ xs) each = and_from (p x) (list_all p xs) (each x (member_first x xs)) (all_from p xs (λ y c. each y (member_later x y xs c)))

pub flat_to : {X Y : Type 0} (f : X → List Y) (xs : List X) (y : Y) → Contains (flat_map f xs) y → (x : X) × Contains xs x × Contains (f x) y
flat_to f [] y c = absurd (let no : ⊥ = omega (arith, c.1) in no)
flat_to f (x ∷ xs) y c = elim (Contains-append_cases (f x) (flat_map f xs) y c) [
  | inl here ↦ (x, member_first x xs, here)
  | inr later ↦ let rest = flat_to f xs y later in (rest.0, member_later x rest.0 xs rest.1, rest.2)
]

pub flat_from : {X Y : Type 0} (f : X → List Y) (xs : List X) (x : X) (y : Y) → Contains xs x → Contains (f x) y → Contains (flat_map f xs) y
flat_from f [] x y c d = absurd (let no : ⊥ = omega (arith, c.1) in no)
flat_from {X} f (z ∷ xs) x y c d = elim (contains_cases z xs x c) [
  | inl is ↦ Contains-append_left (f z) (flat_map f xs) y (subst (λ (w : X). Contains (f w) y) (sym is) d)
  | inr later ↦ Contains-append_right (f z) (flat_map f xs) y (flat_from f xs x y later d)
]

pub some_with : {X : Type 0} (P : X → Type 0) (found : Option X) → is_some found ≡ true → IfSome found P → (x : X) × P x
some_with P None e p = absurd (true≢false (sym e))
some_with P (Some x) e p = (x, p)

pub some_since : {X : Type 0} (found : Option X) → (found ≡ None → ⊥) → is_some found ≡ true
some_since None not_none = absurd (not_none refl)
some_since (Some x) not_none = refl

pub same_truth : (a b : Bool) → (a ≡ true → b ≡ true) → (b ≡ true → a ≡ true) → a ≡ b
same_truth true b to from = sym (to refl)
same_truth false b to from = sym (false_from_ne_true b (λ e. true≢false (sym (from e))))

-- ## Rows of members

pub row_length : {X : Type 0} (n : ℕ) (xs row : List X) → Contains (rows_of n xs) row → length row ≡ n
row_length zero xs row c = elim (contains_cases [] [] row c) [ inl is ↦ ap length (sym is) | inr none ↦ absurd (let no : ⊥ = omega (arith, none.1) in no) ]
row_length {X} (suc n) xs row c =
    let x = flat_to (behind (rows_of n xs)) xs row c in
    let y = mapped_member (λ (rest : List X). x.0 ∷ rest) (rows_of n xs) row x.2 in
    ap length (sym y.2) ∙ ap (λ m. suc m) (row_length n xs y.0 y.1)

pub row_member : {X : Type 0} (n : ℕ) (xs row : List X) → Contains (rows_of n xs) row → (x : X) → Contains row x → Contains xs x
row_member {X} zero xs row c x d = elim (contains_cases [] [] row c) [
  | inl is ↦ let e : Contains [] x = subst (λ (ys : List X). Contains ys x) (sym is) d in absurd (let no : ⊥ = omega (arith, e.1) in no)
  | inr none ↦ absurd (let no : ⊥ = omega (arith, none.1) in no)
]
row_member {X} (suc n) xs row c x d =
    let z = flat_to (behind (rows_of n xs)) xs row c in
    let y = mapped_member (λ (rest : List X). z.0 ∷ rest) (rows_of n xs) row z.2 in
    elim (contains_cases z.0 y.0 x (subst (λ (ys : List X). Contains ys x) (sym y.2) d)) [
      | inl is ↦ subst (λ (w : X). Contains xs w) is z.1
      | inr later ↦ row_member n xs y.0 y.1 x later
    ]

pub is_row : {X : Type 0} (n : ℕ) (xs row : List X) → length row ≡ n → ((x : X) → Contains row x → Contains xs x) → Contains (rows_of n xs) row
is_row zero xs [] e each = member_first [] []
is_row zero xs (x ∷ row) e each = absurd (let no : ⊥ = omega (arith, e) in no)
is_row (suc n) xs [] e each = absurd (let no : ⊥ = omega (arith, e) in no)
is_row {X} (suc n) xs (x ∷ row) e each =
    flat_from (behind (rows_of n xs)) xs x (x ∷ row) (each x (member_first x row))
    (member_mapped (λ (rest : List X). x ∷ rest) (rows_of n xs) row (is_row n xs row (omega (arith, e)) (λ y c. each y (member_later x y row c))))

-- ## Members with their places

pub placed_to : {X : Type 0} (n : ℕ) (xs : List X) (m : ℕ × X) → Contains (enumerate_from n xs) m → (k : ℕ) × (m.0 ≡ n + k) × (slice_get xs k ≡ Some m.1)
placed_to n [] m c = absurd (let no : ⊥ = omega (arith, c.1) in no)
placed_to {X} n (x ∷ xs) m c = elim (contains_cases (n, x) (enumerate_from (n + 1) xs) m c) [
  | inl is ↦ (0, ap (λ (p : ℕ × X). p.0) (sym is) ∙ (let e : n ≡ n + 0 = omega arith in e), ap (λ (p : ℕ × X). Some p.1) is)
  | inr later ↦ let rest = placed_to (n + 1) xs m later in (suc rest.0, (let e : m.0 ≡ n + suc rest.0 = omega (arith, rest.1) in e), rest.2)
]

pub placed_from : {X : Type 0} (n : ℕ) (xs : List X) (k : ℕ) (x : X) → slice_get xs k ≡ Some x → Contains (enumerate_from n xs) (n + k, x)
placed_from n [] k x e = absurd (none-some x e)
placed_from {X} n (y ∷ xs) zero x e =
    subst (λ (p : ℕ × X). Contains ((n, y) ∷ enumerate_from (n + 1) xs) p)
    (ap (λ (m : ℕ). (m, y)) (let d : n ≡ n + 0 = omega arith in d) ∙ ap (λ (z : X). (n + 0, z)) (same_Some y x e))
    (member_first (n, y) (enumerate_from (n + 1) xs))
placed_from {X} n (y ∷ xs) (suc k) x e =
    member_later (n, y) (n + suc k, x) (enumerate_from (n + 1) xs)
    (subst (λ (m : ℕ). Contains (enumerate_from (n + 1) xs) (m, x)) (let d : n + 1 + k ≡ n + suc k = omega arith in d) (placed_from (n + 1) xs k x e))

-- ## Numbers that differ

not_among : (n : ℕ) (ns : List ℕ) → not (list_any (nat_eq n) ns) ≡ true → Contains ns n → ⊥
not_among n ns e c = true≢false (sym (any_from (nat_eq n) ns n c (eq-eqb n n refl)) ∙ not-true (list_any (nat_eq n) ns) e)

pub different_to : (ns : List ℕ) → are_different ns ≡ true → (j k n : ℕ) → slice_get ns j ≡ Some n → slice_get ns k ≡ Some n → j ≡ k
different_to [] e j k n c d = absurd (none-some n c)
different_to (m ∷ ns) e zero zero n c d = refl
different_to (m ∷ ns) e zero (suc k) n c d =
    let both = and_parts (not (list_any (nat_eq m) ns)) (are_different ns) e in
    absurd (not_among m ns both.0 (subst (λ (i : ℕ). Contains ns i) (sym (same_Some m n c)) (member_at ns k n d)))
different_to (m ∷ ns) e (suc j) zero n c d =
    let both = and_parts (not (list_any (nat_eq m) ns)) (are_different ns) e in
    absurd (not_among m ns both.0 (subst (λ (i : ℕ). Contains ns i) (sym (same_Some m n d)) (member_at ns j n c)))
different_to (m ∷ ns) e (suc j) (suc k) n c d =
    let both = and_parts (not (list_any (nat_eq m) ns)) (are_different ns) e in
    ap (λ i. suc i) (different_to ns both.1 j k n c d)

pub different_from : (ns : List ℕ) → ((j k n : ℕ) → slice_get ns j ≡ Some n → slice_get ns k ≡ Some n → j ≡ k) → are_different ns ≡ true
different_from [] apart = refl
different_from (m ∷ ns) apart =
    and_from (not (list_any (nat_eq m) ns)) (are_different ns)
    (not_from_false (list_any (nat_eq m) ns) (false_from_ne_true (list_any (nat_eq m) ns) (λ e.
    let x = any_to (nat_eq m) ns e in
    let p = place_of ns x.0 x.1 in
    let no : 0 ≡ suc p.0 = apart 0 (suc p.0) m refl (p.1 ∙ ap Some (sym (eqb-true m x.0 x.2))) in
    let none : ⊥ = omega (arith, no) in none)))
    (different_from ns (λ j k n c d. let e : suc j ≡ suc k = apart (suc j) (suc k) n c d in omega (arith, e)))

-- ## Lists side by side

pub zip_at : {X Y : Type 0} (xs : List X) (ys : List Y) (k : ℕ) (x : X) (y : Y) → slice_get xs k ≡ Some x → slice_get ys k ≡ Some y → Contains (zip xs ys) (x, y)
zip_at [] ys k x y c d = absurd (none-some x c)
zip_at (a ∷ xs) [] k x y c d = absurd (none-some y d)
zip_at {X} {Y} (a ∷ xs) (b ∷ ys) zero x y c d =
    subst (λ (p : X × Y). Contains ((a, b) ∷ zip xs ys) p) (ap (λ (z : X). (z, b)) (same_Some a x c) ∙ ap (λ (z : Y). (x, z)) (same_Some b y d)) (member_first (a, b) (zip xs ys))
zip_at (a ∷ xs) (b ∷ ys) (suc k) x y c d = member_later (a, b) (x, y) (zip xs ys) (zip_at xs ys k x y c d)

pub at_zip : {X Y : Type 0} (xs : List X) (ys : List Y) (p : X × Y) → Contains (zip xs ys) p → (k : ℕ) × (slice_get xs k ≡ Some p.0) × (slice_get ys k ≡ Some p.1)
at_zip [] ys p c = absurd (let no : ⊥ = omega (arith, c.1) in no)
at_zip (a ∷ xs) [] p c = absurd (let no : ⊥ = omega (arith, c.1) in no)
at_zip {X} {Y} (a ∷ xs) (b ∷ ys) p c = elim (contains_cases (a, b) (zip xs ys) p c) [
  | inl is ↦ (0, ap (λ (q : X × Y). Some q.0) is, ap (λ (q : X × Y). Some q.1) is)
  | inr later ↦ let rest = at_zip xs ys p later in (suc rest.0, rest.1, rest.2)
]
