-- The list of maximal lower sorts as it grows.
use Rattle.std.proofs.Common.{◌≡◌, ℕ, zero, ◌+◌, ◌<◌, List, [], ◌∷◌, ◌++◌, length, length-append, get_or, sym, ◌∙◌, ap, subst, inl, inr, arith}
use Rattle.std.specs.Prelude.{Contains, ◌↔◌}
use Rattle.std.specs.List.Sorted.{IsStrictlyIncreasing}
use Rattle.std.proofs.lemmas.Bool.{cases_eq}
use Rattle.std.proofs.lemmas.List.{get_or_append_left, get_or-append-add, get_or_default}
use Rattle.std.proofs.lemmas.List.Elements.{Contains-append_left, Contains-append_right, Contains-append_cases}
use Rattle.npa_sorts.proofs.Steps.{contains_one}

pub found_more : (found : List ℕ) (r : ℕ) (P : ℕ → Type 0) → ((x : ℕ) → Contains found x ↔ ((x < r) × P x)) → P r →
    (x : ℕ) → Contains (found ++ r ∷ []) x ↔ ((x < r + 1) × P x)
found_more found r P before this x = (
  λ member. elim (Contains-append_cases found (r ∷ []) x member) [
    | inl old ↦ let is = (before x).0 old in (omega (arith, is.0), is.1)
    | inr new ↦ let e : r ≡ x = contains_one r x new in (omega (arith, e), subst P e this)
  ],
  λ is. elim (cases_eq x r) [
    | inl e ↦ Contains-append_right found (r ∷ []) x (zero, omega arith, sym e)
    | inr other ↦ Contains-append_left found (r ∷ []) x ((before x).1 (omega (arith, is.0, other), is.1))
  ],
)

pub found_same : (found : List ℕ) (r : ℕ) (P : ℕ → Type 0) → ((x : ℕ) → Contains found x ↔ ((x < r) × P x)) → (P r → ⊥) →
    (x : ℕ) → Contains found x ↔ ((x < r + 1) × P x)
found_same found r P before not_this x = (
  λ member. let is = (before x).0 member in (omega (arith, is.0), is.1),
  λ is. elim (cases_eq x r) [
    | inl e ↦ absurd (not_this (subst P e is.1))
    | inr other ↦ (before x).1 (omega (arith, is.0, other), is.1)
  ],
)

pub increasing_more : (found : List ℕ) (r : ℕ) → IsStrictlyIncreasing found → ((x : ℕ) → Contains found x → x < r) → IsStrictlyIncreasing (found ++ r ∷ [])
increasing_more found r before below = λ k small.
    let n : length (found ++ r ∷ []) ≡ length found + 1 = length-append found (r ∷ []) in
    let here : get_or (found ++ r ∷ []) k 0 ≡ get_or found k 0 = get_or_append_left found (r ∷ []) 0 k (omega (arith, small, n)) in
    elim (cases_eq (k + 1) (length found)) [
      | inl e ↦
          let last : get_or (found ++ r ∷ []) (k + 1) 0 ≡ r =
          ap (λ i. get_or (found ++ r ∷ []) i 0) (let i : k + 1 ≡ length found + 0 = omega (arith, e) in i) ∙ get_or-append-add found (r ∷ []) 0 0 in
          let member : Contains found (get_or found k 0) = (k, omega (arith, e), get_or_default found k (get_or found k 0) 0 (omega (arith, e))) in
          omega (arith, here, last, below (get_or found k 0) member)
      | inr other ↦
          let small_too : k + 1 < length found = omega (arith, small, n, other) in
          let next : get_or (found ++ r ∷ []) (k + 1) 0 ≡ get_or found (k + 1) 0 = get_or_append_left found (r ∷ []) 0 (k + 1) small_too in
          omega (arith, here, next, before k small_too)
    ]
