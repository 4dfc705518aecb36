-- Tables of names that grow: which names are in them, and that all are different.
use Rattle.std.proofs.Common.{◌≡◌, ℕ, zero, suc, ◌+◌, ◌<◌, Bool, true, false, cond, if◌then◌else◌, List, [], ◌∷◌, ◌++◌, Option, None, Some, length, is_some, is_none, refl, ap, sym, ◌∙◌, subst, arith, ◌⊎◌, inl, inr, ⊎_elim, bytes_eq, option_map}
use Rattle.std.specs.Prelude.{slice_get}
use Rattle.std.proofs.lemmas.Slice.Eq.{bytes_eq-Decides}
use Rattle.std.proofs.lemmas.Option.{slice_get_within}
use Rattle.npa_names.specs.Names.{place_of}
use Rattle.npa_names.proofs.Growth.{or_last, place_of_more}
use Rattle.npa_sig.specs.Rules.{AreApart}
use Rattle.npa_module.specs.Drafts.{given}

-- ## Members of a list with one more

pub push_cases : {A : Type 0} (xs : List A) (x : A) (k : ℕ) (y : A) → slice_get (xs ++ x ∷ []) k ≡ Some y → (slice_get xs k ≡ Some y) ⊎ ((k ≡ length xs) × (x ≡ y))
push_cases [] x zero y e = inr (refl, cc)
push_cases [] x (suc k) y e = absurd (cc)
push_cases (z ∷ xs) x zero y e = inl e
push_cases (z ∷ xs) x (suc k) y e = ⊎_elim (λ f. inl f) (λ p. inr (ap suc p.0, p.1)) (push_cases xs x k y e)

-- ## Names that are in a table

abbrev pub IsIn : List (List ℕ) → List ℕ → Type 0
IsIn table name = is_some (place_of name table) ≡ true

same_bytes : (a b : List ℕ) → a ≡ b → bytes_eq a b ≡ true
same_bytes a b e = (bytes_eq-Decides a b).1 e

pub got_in : (table : List (List ℕ)) (k : ℕ) (name : List ℕ) → slice_get table k ≡ Some name → IsIn table name
got_in [] k name e = absurd (cc)
got_in (n ∷ ns) zero name e = let q : n ≡ name = cc in ap (λ (b : Bool). is_some (cond b (Some 0) (option_map (λ k. k + 1) (place_of name ns)))) (same_bytes name n (sym q))
got_in (n ∷ ns) (suc k) name e = split (bytes_eq name n) (place_of name ns) (got_in ns k name e)
  where
    split : (b : Bool) (o : Option ℕ) → is_some o ≡ true → is_some (cond b (Some 0) (option_map (λ k. k + 1) o)) ≡ true
    split true o f = refl
    split false None f = f
    split false (Some j) f = refl

in_more : (table : List (List ℕ)) (x name : List ℕ) → IsIn table name → IsIn (table ++ x ∷ []) name
in_more table x name is = sym (ap is_some (place_of_more name x table (length table) refl)) ∙ split (place_of name table) is
  where
    split : (o : Option ℕ) → is_some o ≡ true → is_some (or_last o (bytes_eq name x) (length table)) ≡ true
    split None f = absurd (cc)
    split (Some k) f = refl

in_last : (table : List (List ℕ)) (x : List ℕ) → IsIn (table ++ x ∷ []) x
in_last table x = sym (ap is_some (place_of_more x x table (length table) refl)) ∙ split (place_of x table) (bytes_eq x x) (same_bytes x x refl)
  where
    split : (o : Option ℕ) (b : Bool) → b ≡ true → is_some (or_last o b (length table)) ≡ true
    split (Some k) b f = refl
    split None true f = refl
    split None false f = absurd (cc)

-- a name that isn't in a table, and isn't the one that is added
pub none_more : (table : List (List ℕ)) (x name : List ℕ) → place_of name table ≡ None → (name ≡ x → ⊥) → place_of name (table ++ x ∷ []) ≡ None
none_more table x name none apart = sym (place_of_more name x table (length table) refl) ∙ ap (λ (o : Option ℕ). or_last o (bytes_eq name x) (length table)) none ∙ split (bytes_eq name x) refl
  where
    split : (b : Bool) → bytes_eq name x ≡ b → cond b (Some (length table)) None ≡ None
    split true is = absurd (apart ((bytes_eq-Decides name x).0 is))
    split false is = refl

pub none_found : (o : Option ℕ) → is_some o ≡ false → o ≡ None
none_found None e = refl
none_found (Some k) e = absurd (cc)

pub apart_if : (table : List (List ℕ)) (x name : List ℕ) → IsIn table name → is_some (place_of x table) ≡ false → name ≡ x → ⊥
apart_if table x name is out e = let clash : true ≡ false = sym is ∙ ap (λ (n : List ℕ). is_some (place_of n table)) e ∙ out in cc

-- ## Names given to a table

unless_there : (table : List (List ℕ)) (n name : List ℕ) → IsIn table name → IsIn (if is_none (place_of n table) then table ++ n ∷ [] else table) name
unless_there table n name is = split (is_none (place_of n table))
  where
    split : (b : Bool) → IsIn (if b then table ++ n ∷ [] else table) name
    split true = in_more table n name is
    split false = is

given_there : (table : List (List ℕ)) (n : List ℕ) → IsIn (if is_none (place_of n table) then table ++ n ∷ [] else table) n
given_there table n = split (place_of n table) refl
  where
    split : (o : Option ℕ) → place_of n table ≡ o → IsIn (if is_none o then table ++ n ∷ [] else table) n
    split None is = in_last table n
    split (Some k) is = ap is_some is

pub given_more : (table names : List (List ℕ)) (name : List ℕ) → IsIn table name → IsIn (given table names) name
given_more table [] name is = is
given_more table (n ∷ ns) name is = given_more (if is_none (place_of n table) then table ++ n ∷ [] else table) ns name (unless_there table n name is)

pub given_each : (table names : List (List ℕ)) (k : ℕ) (name : List ℕ) → slice_get names k ≡ Some name → IsIn (given table names) name
given_each table [] k name e = absurd (cc)
given_each table (n ∷ ns) zero name e =
    let q : n ≡ name = cc in
    given_more (if is_none (place_of n table) then table ++ n ∷ [] else table) ns name (subst (IsIn (if is_none (place_of n table) then table ++ n ∷ [] else table)) q (given_there table n))
given_each table (n ∷ ns) (suc k) name e = given_each (if is_none (place_of n table) then table ++ n ∷ [] else table) ns k name e

-- ## Names that are different

pub apart_more : (names : List (List ℕ)) (x : List ℕ) → AreApart names → is_some (place_of x names) ≡ false → AreApart (names ++ x ∷ [])
apart_more names x apart out j k name e f = split (push_cases names x j name e) (push_cases names x k name f)
  where
    clash : (i : ℕ) → slice_get names i ≡ Some name → x ≡ name → ⊥
    clash i g same = apart_if names x name (got_in names i name g) out (sym same)

    split : (slice_get names j ≡ Some name) ⊎ ((j ≡ length names) × (x ≡ name)) → (slice_get names k ≡ Some name) ⊎ ((k ≡ length names) × (x ≡ name)) → j ≡ k
    split (inl g) (inl h) = apart j k name g h
    split (inl g) (inr h) = absurd (clash j g h.1)
    split (inr g) (inl h) = absurd (clash k h g.1)
    split (inr g) (inr h) = g.0 ∙ sym h.0

-- a member of two lists, in the other order
pub record IsMoved {A : Type 0} (xs ys : List A) (j : ℕ) (y : A) : Type 0 where
  pub place : ℕ
  pub there : slice_get (xs ++ ys) place ≡ Some y
  pub is : ((j < length ys) × (place ≡ length xs + j)) ⊎ ((place < length xs) × (j ≡ length ys + place))

at_back : {A : Type 0} (xs ys : List A) (j : ℕ) (y : A) → slice_get ys j ≡ Some y → slice_get (xs ++ ys) (length xs + j) ≡ Some y
at_back [] ys j y e = let same : 0 + j ≡ j = omega arith in ap (slice_get ys) same ∙ e
at_back (x ∷ xs) ys j y e = let same : suc (length xs) + j ≡ suc (length xs + j) = omega arith in ap (slice_get (x ∷ xs ++ ys)) same ∙ at_back xs ys j y e

at_front : {A : Type 0} (xs ys : List A) (j : ℕ) (y : A) → slice_get xs j ≡ Some y → slice_get (xs ++ ys) j ≡ Some y
at_front [] ys j y e = absurd (cc)
at_front (x ∷ xs) ys zero y e = e
at_front (x ∷ xs) ys (suc j) y e = at_front xs ys j y e

append_cases : {A : Type 0} (ys xs : List A) (j : ℕ) (y : A) → slice_get (ys ++ xs) j ≡ Some y → (slice_get ys j ≡ Some y) ⊎ ((i : ℕ) × (j ≡ length ys + i) × (slice_get xs i ≡ Some y))
append_cases [] xs j y e = let same : j ≡ 0 + j = omega arith in inr (j, same, e)
append_cases (z ∷ ys) xs zero y e = inl e
append_cases (z ∷ ys) xs (suc j) y e = ⊎_elim (λ f. inl f) (λ p. let is = p.1 in let more : suc j ≡ suc (length ys) + p.0 = omega (arith, is) in inr (p.0, more, p.2)) (append_cases ys xs j y e)

pub moved : {A : Type 0} (xs ys : List A) (j : ℕ) (y : A) → slice_get (ys ++ xs) j ≡ Some y → IsMoved xs ys j y
moved xs ys j y e =
    ⊎_elim
    (λ f. record { place = length xs + j; there = at_back xs ys j y f; is = inl (slice_get_within ys j y f, refl) })
    (λ p. record { place = p.0; there = at_front xs ys p.0 y p.2; is = inr (slice_get_within xs p.0 y p.2, p.1) })
    (append_cases ys xs j y e)

pub apart_moved : (xs ys : List (List ℕ)) → AreApart (xs ++ ys) → AreApart (ys ++ xs)
apart_moved xs ys apart j k name e f =
    let a = moved xs ys j name e in
    let b = moved xs ys k name f in
    split a.place b.place (apart a.place b.place name a.there b.there) a.is b.is
  where
    split : (m n : ℕ) → m ≡ n → ((j < length ys) × (m ≡ length xs + j)) ⊎ ((m < length xs) × (j ≡ length ys + m)) → ((k < length ys) × (n ≡ length xs + k)) ⊎ ((n < length xs) × (k ≡ length ys + n)) → j ≡ k
    split m n q (inl g) (inl h) = let p = g.1 in let r = h.1 in omega (arith, q, p, r)
    split m n q (inl g) (inr h) = let p = g.1 in let r = h.0 in omega (arith, q, p, r)
    split m n q (inr g) (inl h) = let p = g.0 in let r = h.1 in omega (arith, q, p, r)
    split m n q (inr g) (inr h) = let p = g.1 in let r = h.1 in omega (arith, q, p, r)
