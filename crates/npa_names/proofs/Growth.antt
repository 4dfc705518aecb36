-- A table of names with a value for each, at its place: a name that isn't there is put at the end
-- with its value, and a name that is there keeps the value that it has.
use Rattle.std.proofs.Common.{◌≡◌, ℕ, zero, suc, ◌+◌, ◌<◌, Bool, true, false, cond, List, [], ◌∷◌, ◌++◌, Option, None, Some, length, refl, sym, ap, ◌∙◌, arith}
use Rattle.std.specs.Prelude.{slice_get, is_none, if◌then◌else◌}
use Rattle.std.specs.Option.{option_map, option_and_then}
use Rattle.std.specs.Str.{bytes_eq}
use Rattle.std.proofs.lemmas.Slice.Eq.{bytes_eq-Decides}
use Rattle.npa_names.specs.Names.{place_of}

-- what was found, or else the last value where the name is the last
abbrev pub or_last : {A : Type 0} → Option A → Bool → A → Option A
or_last (Some a) b last = Some a
or_last None b last = cond b (Some last) None

place_more : (name x : List ℕ) (xs : List (List ℕ)) → place_of name (xs ++ x ∷ []) ≡ or_last (place_of name xs) (bytes_eq name x) (length xs)
place_more name x [] = first (bytes_eq name x)
  where
    first : (b : Bool) → cond b (Some 0) (option_map (λ k. k + 1) None) ≡ cond b (Some 0) None
    first true = refl
    first false = refl
place_more name x (y ∷ ys) = one (bytes_eq name y) (place_more name x ys)
  where
    pushed : (o : Option ℕ) (b : Bool) (n : ℕ) → option_map (λ k. k + 1) (or_last o b n) ≡ or_last (option_map (λ k. k + 1) o) b (suc n)
    pushed (Some k) b n = refl
    pushed None true n = ap Some (omega arith)
    pushed None false n = refl

    one : (b : Bool) → place_of name (ys ++ x ∷ []) ≡ or_last (place_of name ys) (bytes_eq name x) (length ys) →
        cond b (Some 0) (option_map (λ k. k + 1) (place_of name (ys ++ x ∷ []))) ≡ or_last (cond b (Some 0) (option_map (λ k. k + 1) (place_of name ys))) (bytes_eq name x) (suc (length ys))
    one true e = refl
    one false e = ap (option_map (λ k. k + 1)) e ∙ pushed (place_of name ys) (bytes_eq name x) (length ys)

-- the last of a place is that of a place more
pub place_of_more : (name x : List ℕ) (xs : List (List ℕ)) (n : ℕ) → length xs ≡ n → or_last (place_of name xs) (bytes_eq name x) n ≡ place_of name (xs ++ x ∷ [])
place_of_more name x xs n is = ap (λ (k : ℕ). or_last (place_of name xs) (bytes_eq name x) k) (sym is) ∙ sym (place_more name x xs)

place_in : (name : List ℕ) (xs : List (List ℕ)) (j : ℕ) → place_of name xs ≡ Some j → j < length xs
place_in name [] j e = absurd (cc)
place_in name (y ∷ ys) j e = one (λ k is. place_in name ys k is) (bytes_eq name y) e
  where
    inner : ((k : ℕ) → place_of name ys ≡ Some k → k < length ys) → (o : Option ℕ) → place_of name ys ≡ o → option_map (λ k. k + 1) o ≡ Some j → j < suc (length ys)
    inner rest None is f = absurd (cc)
    inner rest (Some k) is f = let same : k + 1 ≡ j = cc in omega (arith, same, rest k is)

    one : ((k : ℕ) → place_of name ys ≡ Some k → k < length ys) → (b : Bool) → cond b (Some 0) (option_map (λ k. k + 1) (place_of name ys)) ≡ Some j → j < suc (length ys)
    one rest true f = let same : 0 ≡ j = cc in omega (arith, same)
    one rest false f = inner rest (place_of name ys) refl f

module _ {A : Type 0} where
  get_at : (xs : List A) (j : ℕ) → j < length xs → (x : A) × (slice_get xs j ≡ Some x)
  get_at [] j l = absurd (omega (arith, l))
  get_at (x ∷ xs) zero l = (x, refl)
  get_at (x ∷ xs) (suc j) l = get_at xs j (omega (arith, l))

  get_front : (xs ys : List A) (j : ℕ) → j < length xs → slice_get (xs ++ ys) j ≡ slice_get xs j
  get_front [] ys j l = absurd (omega (arith, l))
  get_front (x ∷ xs) ys zero l = refl
  get_front (x ∷ xs) ys (suc j) l = get_front xs ys j (omega (arith, l))

  get_last : (xs : List A) (x : A) → slice_get (xs ++ x ∷ []) (length xs) ≡ Some x
  get_last [] x = refl
  get_last (y ∷ ys) x = get_last ys x

  longer : (xs : List A) (y : A) → length (xs ++ y ∷ []) ≡ suc (length xs)
  longer [] y = refl
  longer (z ∷ zs) y = ap suc (longer zs y)

same_bytes : (a b : List ℕ) → bytes_eq a b ≡ true → a ≡ b
same_bytes a b e = (bytes_eq-Decides a b).0 e

-- the value of each name stands at its place
abbrev pub Tabled : {A : Type 0} → List (List ℕ) → List A → (List ℕ → Option A) → Type 0
Tabled names values find = (name : List ℕ) → option_and_then (slice_get values) (place_of name names) ≡ find name

-- one name more with its value
module _ {A : Type 0} (names : List (List ℕ)) (values : List A) (x : List ℕ) (v : A) (even : length values ≡ length names) where
  module _ (find : List ℕ → Option A) (tabled : Tabled names values find) where
    added_at : (name : List ℕ) (o : Option ℕ) → place_of name names ≡ o →
        option_and_then (slice_get (values ++ v ∷ [])) (or_last o (bytes_eq name x) (length names)) ≡ or_last (find name) (bytes_eq name x) v
    added_at name (Some j) e =
        let within : j < length values = omega (arith, even, place_in name names j e) in
        let there = get_at values j within in
        let known : find name ≡ Some there.0 = sym (tabled name) ∙ ap (option_and_then (slice_get values)) e ∙ there.1 in
        get_front values (v ∷ []) j within ∙ there.1 ∙ sym (ap (λ (o : Option A). or_last o (bytes_eq name x) v) known)
    added_at name None e =
        let known : find name ≡ None = sym (tabled name) ∙ ap (option_and_then (slice_get values)) e in
        last (bytes_eq name x) ∙ sym (ap (λ (o : Option A). or_last o (bytes_eq name x) v) known)
      where
        last : (b : Bool) → option_and_then (slice_get (values ++ v ∷ [])) (cond b (Some (length names)) None) ≡ cond b (Some v) None
        last true = ap (slice_get (values ++ v ∷ [])) (sym even) ∙ get_last values v
        last false = refl

    kept_at : is_none (place_of x names) ≡ false → (name : List ℕ) (b : Bool) → bytes_eq name x ≡ b → find name ≡ or_last (find name) b v
    kept_at was name false e = cases (find name)
      where
        cases : (o : Option A) → o ≡ or_last o false v
        cases None = refl
        cases (Some a) = refl
    kept_at was name true e = found (place_of x names) refl was
      where
        found : (o : Option ℕ) → place_of x names ≡ o → is_none o ≡ false → find name ≡ or_last (find name) true v
        found None is there = absurd (cc)
        found (Some j) is there =
            let at = get_at values j (omega (arith, even, place_in x names j is)) in
            let known : find x ≡ Some at.0 = sym (tabled x) ∙ ap (option_and_then (slice_get values)) is ∙ at.1 in
            let here : find name ≡ Some at.0 = ap find (same_bytes name x e) ∙ known in
            here ∙ sym (ap (λ (o : Option A). or_last o true v) here)

    pub tabled_more : (b : Bool) → is_none (place_of x names) ≡ b →
        Tabled (if b then names ++ x ∷ [] else names) (if b then values ++ v ∷ [] else values) (λ (name : List ℕ). or_last (find name) (bytes_eq name x) v)
    tabled_more true was name = ap (option_and_then (slice_get (values ++ v ∷ []))) (place_more name x names) ∙ added_at name (place_of name names) refl
    tabled_more false was name = tabled name ∙ kept_at was name (bytes_eq name x) refl

  pub even_more : (b : Bool) → length (if b then values ++ v ∷ [] else values) ≡ length (if b then names ++ x ∷ [] else names)
  even_more true = longer values v ∙ ap suc even ∙ sym (longer names x)
  even_more false = even
