-- The computed list of maximal lower sorts is exact, and each common lower sort is at or below one
-- of them.
use Rattle.std.proofs.Common.{◌≡◌, ℕ, zero, suc, ◌+◌, ◌<◌, Bool, true, false, cond, not, nat_eq, ◌&&◌, List, [], ◌∷◌, ◌++◌, refl, sym, ◌∙◌, ap, subst, inl, inr, arith}
use Rattle.std.specs.Prelude.{Contains, ◌↔◌}
use Rattle.std.specs.List.{filter, list_any}
use Rattle.std.proofs.lemmas.Bool.{cases_eq, eqb-true, and_parts, and_from, not-true, false_from_ne_true, true≢false}
use Rattle.std.proofs.lemmas.List.Elements.{Contains-append_left, Contains-append_right, Contains-append_cases, filter-append}
use Rattle.std.proofs.lemmas.List.Folds.{Any-from_list_any, list_any_at}
use Rattle.npa_sorts.specs.Lowers.{numbers, is_lower, passes, is_maximal, lowers}
use Rattle.npa_sorts.specs.Subsorts.{Subsorts, IsSort, IsBelow, IsAtOrBelow, AreSorts, IsMaximalLower, at_or_below}
use Rattle.npa_sorts.proofs.Climbs.{below_upper, decides}
use Rattle.npa_sorts.proofs.Steps.{at_or_below_antisym, at_or_below_sort, at_or_below_trans, below_lower, contains_one}

-- lists of numbers

pub numbers_has : (n k : ℕ) → k < n → Contains (numbers n) k
numbers_has zero k small = absurd (let no : ⊥ = omega (arith, small) in no)
numbers_has (suc n) k small =
    elim (cases_eq k n) [
      | inl e ↦ Contains-append_right (numbers n) (n ∷ []) k (zero, omega arith, sym e)
      | inr other ↦ Contains-append_left (numbers n) (n ∷ []) k (numbers_has n k (omega (arith, small, other)))
    ]

pub numbers_below : (n k : ℕ) → Contains (numbers n) k → k < n
numbers_below zero k c = absurd (let no : ⊥ = omega (arith, c.1) in no)
numbers_below (suc n) k c =
    elim (Contains-append_cases (numbers n) (n ∷ []) k c) [
      | inl old ↦ let low : k < n = numbers_below n k old in omega (arith, low)
      | inr new ↦ let e : n ≡ k = contains_one n k new in omega (arith, e)
    ]

pub filter_has : {X : Type 0} (p : X → Bool) (xs : List X) (x : X) → Contains xs x → p x ≡ true → Contains (filter p xs) x
filter_has p [] x c e = absurd (let no : ⊥ = omega (arith, c.1) in no)
filter_has p (y ∷ ys) x c e =
    elim (Contains-append_cases (y ∷ []) ys x c) [
      | inl here ↦ let is : y ≡ x = contains_one y x here in
          subst (λ b. Contains (cond b (y ∷ filter p ys) (filter p ys)) x) (sym (ap p is ∙ e)) (zero, omega arith, is)
      | inr later ↦ elim (p y) as (λ b. Contains (cond b (y ∷ filter p ys) (filter p ys)) x) [
        | true ↦ Contains-append_right (y ∷ []) (filter p ys) x (filter_has p ys x later e)
        | false ↦ filter_has p ys x later e
      ]
    ]

pub filter_of : {X : Type 0} (p : X → Bool) (xs : List X) (x : X) → Contains (filter p xs) x → Contains xs x × (p x ≡ true)
filter_of p [] x c = absurd (let no : ⊥ = omega (arith, c.1) in no)
filter_of p (y ∷ ys) x c =
    elim (p y) as (λ b. p y ≡ b → Contains (cond b (y ∷ filter p ys) (filter p ys)) x → Contains (y ∷ ys) x × (p x ≡ true)) [
      | true ↦ λ e d. elim (Contains-append_cases (y ∷ []) (filter p ys) x d) [
        | inl here ↦ let is : y ≡ x = contains_one y x here in ((zero, omega arith, is), sym (ap p is) ∙ e)
        | inr later ↦ let rest = filter_of p ys x later in (Contains-append_right (y ∷ []) ys x rest.0, rest.1)
      ]
      | false ↦ λ e d. let rest = filter_of p ys x d in (Contains-append_right (y ∷ []) ys x rest.0, rest.1)
    ] refl c

any_has : (p : ℕ → Bool) (xs : List ℕ) (x : ℕ) → Contains xs x → p x ≡ true → list_any p xs ≡ true
any_has p xs x c e = list_any_at p xs c.0 x c.1 (ap p c.2 ∙ e)

-- the list as it grows
numbers_more : (r : ℕ) → numbers (r + 1) ≡ numbers r ++ r ∷ []
numbers_more r = let next : r + 1 ≡ suc r = omega arith in ap numbers next

pub filter_more : (p : ℕ → Bool) (found : List ℕ) (r : ℕ) → found ≡ filter p (numbers r) → p r ≡ true → found ++ r ∷ [] ≡ filter p (numbers (r + 1))
filter_more p found r before is =
    ap (λ xs. xs ++ r ∷ []) before ∙ ap (λ b. filter p (numbers r) ++ cond b (r ∷ []) []) (sym is) ∙ sym (filter-append p (numbers r) (r ∷ [])) ∙ sym (ap (filter p) (numbers_more r))

append_none : (xs : List ℕ) → xs ≡ xs ++ []
append_none [] = refl
append_none (x ∷ xs) = ap (λ ys. x ∷ ys) (append_none xs)

pub filter_same : (p : ℕ → Bool) (found : List ℕ) (r : ℕ) → found ≡ filter p (numbers r) → p r ≡ false → found ≡ filter p (numbers (r + 1))
filter_same p found r before not_this =
    before ∙ append_none (filter p (numbers r)) ∙ ap (λ b. filter p (numbers r) ++ cond b (r ∷ []) []) (sym not_this) ∙ sym (filter-append p (numbers r) (r ∷ [])) ∙ sym (ap (filter p) (numbers_more r))

-- the tests are exact

pub lower_is : (o : Subsorts) (s t r : ℕ) → is_lower o s t r ≡ true → IsAtOrBelow o r s × IsAtOrBelow o r t
lower_is o s t r e =
    let both = and_parts (at_or_below o r s) (at_or_below o r t) e in
    ((decides o r s).0 both.0, (decides o r t).0 both.1)

pub is_lower_of : (o : Subsorts) (s t r : ℕ) → IsAtOrBelow o r s → IsAtOrBelow o r t → is_lower o s t r ≡ true
is_lower_of o s t r p q = and_from (at_or_below o r s) (at_or_below o r t) ((decides o r s).1 p) ((decides o r t).1 q)

differ_true : (q r : ℕ) → (q ≡ r → ⊥) → not (nat_eq q r) ≡ true
differ_true q r other = ap not (false_from_ne_true (nat_eq q r) (λ e. other (eqb-true q r e)))

maximal_of : (o : Subsorts) (s t r : ℕ) → ((q : ℕ) → IsSort o q → passes o s t r q ≡ true → ⊥) → not (list_any (passes o s t r) (numbers (o.declared + 2))) ≡ true
maximal_of o s t r none =
    ap not (false_from_ne_true (list_any (passes o s t r) (numbers (o.declared + 2)))
    (λ e. let some = Any-from_list_any (passes o s t r) (numbers (o.declared + 2)) e in
    none some.1 (numbers_below (o.declared + 2) some.1 (some.0, some.2, some.3)) some.4))

passes_of : (o : Subsorts) (s t r q : ℕ) → IsAtOrBelow o q s → IsAtOrBelow o q t → (q ≡ r → ⊥) → IsAtOrBelow o r q → passes o s t r q ≡ true
passes_of o s t r q first second other above =
    and_from (is_lower o s t q) (not (nat_eq q r) && at_or_below o r q) (is_lower_of o s t q first second)
    (and_from (not (nat_eq q r)) (at_or_below o r q) (differ_true q r other) ((decides o r q).1 above))

pub maximal_exact : (o : Subsorts) (s t r : ℕ) → AreSorts o → IsSort o s → (is_maximal o s t r ≡ true) ↔ IsMaximalLower o s t r
maximal_exact o s t r sorts high = (
  λ e.
      let both = and_parts (is_lower o s t r) (not (list_any (passes o s t r) (numbers (o.declared + 2)))) e in
      let low = lower_is o s t r both.0 in
      record {
        first = low.0;
        second = low.1;
        maximal = λ q first second above. elim (cases_eq r q) [
          | inl same ↦ same
          | inr other ↦
              let found : list_any (passes o s t r) (numbers (o.declared + 2)) ≡ true =
              any_has (passes o s t r) (numbers (o.declared + 2)) q (numbers_has (o.declared + 2) q (at_or_below_sort o q s sorts first high))
              (passes_of o s t r q first second (λ e. other (sym e)) above) in
              absurd (true≢false (sym found ∙ not-true (list_any (passes o s t r) (numbers (o.declared + 2))) both.1))
        ];
      },
  λ m. and_from (is_lower o s t r) (not (list_any (passes o s t r) (numbers (o.declared + 2)))) (is_lower_of o s t r m.first m.second)
      (maximal_of o s t r (λ q sort e.
      let parts = and_parts (is_lower o s t q) (not (nat_eq q r) && at_or_below o r q) e in
      let rest = and_parts (not (nat_eq q r)) (at_or_below o r q) parts.1 in
      let low = lower_is o s t q parts.0 in
      let same : r ≡ q = m.maximal q low.0 low.1 ((decides o r q).0 rest.1) in
      differs q r rest.0 (sym same))),
)
  where
    differs : (q r : ℕ) → not (nat_eq q r) ≡ true → q ≡ r → ⊥
    differs q r e same = grind (arith, same)

-- Each two sorts with a common lower one have a maximal one at or above it.
abbrev pub HasLowers : Subsorts → Type 0
HasLowers o = (s t r : ℕ) → IsBelow o r s → IsBelow o r t → (k : ℕ) × Contains (lowers o s t) k × IsAtOrBelow o r k

abbrev pub IsAcyclic : Subsorts → Type 0
IsAcyclic o = (s : ℕ) → IsBelow o s s → ⊥

-- the highest lower sort above a given one among the numbers below n, and that one itself
record Highest (o : Subsorts) (s t m n : ℕ) : Type 0 where
  sort : ℕ
  first : IsAtOrBelow o sort s
  second : IsAtOrBelow o sort t
  above : IsAtOrBelow o m sort
  highest : (x : ℕ) → x < n → is_lower o s t x ≡ true → IsAtOrBelow o sort x → x ≡ sort

highest_below : (o : Subsorts) → IsAcyclic o → (s t m : ℕ) → IsAtOrBelow o m s → IsAtOrBelow o m t → (n : ℕ) → Highest o s t m n
highest_below o acyclic s t m first second zero = record {
  sort = m;
  first = first;
  second = second;
  above = inl refl;
  highest = λ x small. absurd (let no : ⊥ = omega (arith, small) in no);
}
highest_below o acyclic s t m first second (suc n) =
    let old = highest_below o acyclic s t m first second n in
    elim (is_lower o s t n && at_or_below o old.sort n) as (λ b. (is_lower o s t n && at_or_below o old.sort n) ≡ b → Highest o s t m (suc n)) [
      | true ↦ λ e.
          let both = and_parts (is_lower o s t n) (at_or_below o old.sort n) e in
          let low = lower_is o s t n both.0 in
          let up : IsAtOrBelow o old.sort n = (decides o old.sort n).0 both.1 in
          record {
            sort = n;
            first = low.0;
            second = low.1;
            above = at_or_below_trans old.above up;
            highest = λ x small is over. elim (cases_eq x n) [
              | inl same ↦ same
              | inr other ↦
                  let same : x ≡ old.sort = old.highest x (omega (arith, small, other)) is (at_or_below_trans up over) in
                  at_or_below_antisym o acyclic x n (subst (λ y. IsAtOrBelow o y n) (sym same) up) over
            ];
          }
      | false ↦ λ e. record {
        sort = old.sort;
        first = old.first;
        second = old.second;
        above = old.above;
        highest = λ x small is over. elim (cases_eq x n) [
          | inl same ↦ absurd (true≢false (sym (and_from (is_lower o s t n) (at_or_below o old.sort n) (subst (λ y. is_lower o s t y ≡ true) same is)
              ((decides o old.sort n).1 (subst (IsAtOrBelow o old.sort) same over))) ∙ e))
          | inr other ↦ old.highest x (omega (arith, small, other)) is over
        ];
      }
    ] refl

pub has_lower : (o : Subsorts) → AreSorts o → IsAcyclic o → HasLowers o
has_lower o sorts acyclic s t r first second =
    let top = highest_below o acyclic s t r (inr first) (inr second) (o.declared + 2) in
    let lower_sort : IsSort o r = below_lower sorts first in
    let sort : IsSort o top.sort = elim top.above [
      | inl same ↦ subst (IsSort o) same lower_sort
      | inr up ↦ below_upper sorts up
    ] in
    let is : is_maximal o s t top.sort ≡ true =
    and_from (is_lower o s t top.sort) (not (list_any (passes o s t top.sort) (numbers (o.declared + 2)))) (is_lower_of o s t top.sort top.first top.second)
    (maximal_of o s t top.sort (λ q high e.
    let parts = and_parts (is_lower o s t q) (not (nat_eq q top.sort) && at_or_below o top.sort q) e in
    let rest = and_parts (not (nat_eq q top.sort)) (at_or_below o top.sort q) parts.1 in
    differs q top.sort rest.0 (top.highest q high parts.0 ((decides o top.sort q).0 rest.1)))) in
    (top.sort, filter_has (is_maximal o s t) (numbers (o.declared + 2)) top.sort (numbers_has (o.declared + 2) top.sort sort) is, top.above)
  where
    differs : (q r : ℕ) → not (nat_eq q r) ≡ true → q ≡ r → ⊥
    differs q r e same = grind (arith, same)

-- a maximal lower sort is a lower one
pub maximal_lower_is : (o : Subsorts) (s t r : ℕ) → Contains (lowers o s t) r → IsAtOrBelow o r s × IsAtOrBelow o r t
maximal_lower_is o s t r member =
    let is = filter_of (is_maximal o s t) (numbers (o.declared + 2)) r member in
    lower_is o s t r (and_parts (is_lower o s t r) (not (list_any (passes o s t r) (numbers (o.declared + 2)))) is.1).0
