-- Lists of terms side by side.
use Rattle.std.proofs.Common.{◌≡◌, ℕ, suc, ◌<◌, ◌≤◌, ⊎_elim, List, [], ◌∷◌, ◌++◌, append-nil, map, length, drop, min, Contains, refl, ap, sym, ◌∙◌, subst, inl, inr, arith}
use Rattle.std.specs.Prelude.{zip}
use Rattle.std.proofs.lemmas.Bool.{cases_lt}
use Rattle.std.proofs.lemmas.List.{drop_all}
use Rattle.npa_term.specs.declared.term.Term.{Term}
use Rattle.npa_term.specs.Same.{Same, SameAll, nothing, first}
use Rattle.npa_choice.proofs.Places.{contains_cases}
use Rattle.npa_term.proofs.Numbered.{member_first, member_later}

-- what stands in one of two lists beside its place in the other is a member
pub left_of_zip : (ts us : List Term) (p : Term × Term) → Contains (zip ts us) p → Contains ts p.0
left_of_zip [] us p c = absurd (let no : ⊥ = omega (arith, c.1) in no)
left_of_zip (t ∷ ts) [] p c = absurd (let no : ⊥ = omega (arith, c.1) in no)
left_of_zip (t ∷ ts) (u ∷ us) p c = elim (contains_cases (t, u) (zip ts us) p c) [
  | inl is ↦ subst (λ (x : Term). Contains (t ∷ ts) x) (ap (λ (q : Term × Term). q.0) is) (member_first t ts)
  | inr later ↦ member_later t p.0 ts (left_of_zip ts us p later)
]

-- a member of the first has one beside it
pub beside : (ts us : List Term) (t : Term) → length ts ≡ length us → Contains ts t → (u : Term) × Contains (zip ts us) (t, u)
beside [] us t e c = absurd (let no : ⊥ = omega (arith, c.1) in no)
beside (x ∷ ts) [] t e c = absurd (let no : ⊥ = omega (arith, e) in no)
beside (x ∷ ts) (y ∷ us) t e c = elim (contains_cases x ts t c) [
  | inl is ↦ (y, subst (λ (z : Term). Contains ((x, y) ∷ zip ts us) (z, y)) is (member_first (x, y) (zip ts us)))
  | inr later ↦ let rest = beside ts us t (omega (arith, e)) later in (rest.0, member_later (x, y) (t, rest.0) (zip ts us) rest.1)
]

pub same_of_zip : (f : Term → Term) (ts us : List Term) → length ts ≡ length us → ((t u : Term) → Contains (zip ts us) (t, u) → Same (f t) u) → SameAll (map f ts) us
same_of_zip f [] [] e each = nothing
same_of_zip f [] (u ∷ us) e each = absurd (let no : ⊥ = omega (arith, e) in no)
same_of_zip f (t ∷ ts) [] e each = absurd (let no : ⊥ = omega (arith, e) in no)
same_of_zip f (t ∷ ts) (u ∷ us) e each =
    first (f t) u (map f ts) us (each t u (member_first (t, u) (zip ts us)))
    (same_of_zip f ts us (omega (arith, e)) (λ a b c. each a b (member_later (t, u) (a, b) (zip ts us) c)))

same_heads : {t u : Term} {ts us : List Term} → SameAll (t ∷ ts) (u ∷ us) → Same t u × SameAll ts us
same_heads (first t u ts us p q) = (p, q)

uneven_left : {u : Term} {us : List Term} → SameAll [] (u ∷ us) → ⊥
uneven_left p = elim p [ ]

uneven_right : {t : Term} {ts : List Term} → SameAll (t ∷ ts) [] → ⊥
uneven_right p = elim p [ ]

pub zip_of_same : (f : Term → Term) (ts us : List Term) → SameAll (map f ts) us → (p : Term × Term) → Contains (zip ts us) p → Same (f p.0) p.1
zip_of_same f [] us same p c = absurd (let no : ⊥ = omega (arith, c.1) in no)
zip_of_same f (t ∷ ts) [] same p c = absurd (let no : ⊥ = omega (arith, c.1) in no)
zip_of_same f (t ∷ ts) (u ∷ us) same p c =
    let both = same_heads same in
    elim (contains_cases (t, u) (zip ts us) p c) [
      | inl is ↦ subst (λ (x : Term × Term). Same (f x.0) x.1) is both.0
      | inr later ↦ zip_of_same f ts us both.1 p later
    ]

pub same_length : (f : Term → Term) (ts us : List Term) → SameAll (map f ts) us → length ts ≡ length us
same_length f [] [] same = refl
same_length f [] (u ∷ us) same = absurd (uneven_left same)
same_length f (t ∷ ts) [] same = absurd (uneven_right same)
same_length f (t ∷ ts) (u ∷ us) same = ap (λ n. suc n) (same_length f ts us (same_heads same).1)

-- ## Pairs that are added one after another

zip_nil : {X : Type 0} (ts us : List X) → us ≡ [] → zip ts us ≡ []
zip_nil [] us e = refl
zip_nil (t ∷ ts) [] e = refl
zip_nil (t ∷ ts) (u ∷ us) e = cc

-- up to the end of one of the lists
pub all_added : {X : Type 0} (ps qs : List (X × X)) (ts us : List X) (i : ℕ) → min (length ts) (length us) ≤ i → ps ++ zip (drop i ts) (drop i us) ≡ qs → ps ≡ qs
all_added ps qs ts us i l e =
    let none : zip (drop i ts) (drop i us) ≡ [] = ⊎_elim
    (λ (long : i < length ts). zip_nil (drop i ts) (drop i us) (drop_all i us (omega (arith, l, long))))
    (λ (short : length ts ≤ i). ap (λ vs. zip vs (drop i us)) (drop_all i ts short))
    (cases_lt i (length ts)) in
    sym (append-nil ps) ∙ ap (λ zs. ps ++ zs) (sym none) ∙ e
