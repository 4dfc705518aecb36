-- What terms with their variables numbered anew are to the terms.
use Rattle.std.proofs.Common.{◌≡◌, ℕ, zero, suc, ◌+◌, ◌<◌, List, [], ◌∷◌, ◌++◌, map, length, refl, sym, ◌∙◌, ap, subst, inl, inr, arith}
use Rattle.std.specs.Prelude.{Contains, unwrap_or}
use Rattle.std.specs.List.{flat_map}
use Rattle.std.proofs.lemmas.List.Elements.{Contains-append_left, Contains-append_right, Contains-append_cases}
use Rattle.npa_term.specs.declared.term.Var.{Var as Variable}
use Rattle.npa_term.specs.declared.term.Term.{Term, Var, App}
use Rattle.npa_term.specs.Bound.{applied}
use Rattle.npa_term.specs.Canonical.{canonical}
use Rattle.npa_term.specs.Numbering.{variables_once, anew, numbered, numbering, unnumbering, renumbered}
use Rattle.npa_term.specs.Parts.{image}
use Rattle.npa_term.specs.Same.{Same, itself, through, swapped, below, SameAll, nothing, first}
use Rattle.npa_term.specs.Variables.{variables}
use Rattle.npa_term.proofs.CanonicalLaws.{canonical_same}
use Rattle.npa_term.proofs.Induction.{Each, by_terms}
use Rattle.npa_term.proofs.Numbered.{is_numbered, once_has, unnumbered_numbered, member_first, member_later}
use Rattle.npa_term.proofs.Parts.{only_member}
use Rattle.npa_term.proofs.Rows.{applied_app, variables_at}
use Rattle.npa_term.proofs.SameLaws.{same_sym, same_applied}

-- a variable of a list of terms is one of a member's
abbrev pub OfMember : List Term → Variable → Type 0
OfMember ts v = (t : Term) × Contains ts t × Contains (variables t) v

pub of_member : (ts : List Term) (v : Variable) → Contains (flat_map variables ts) v → OfMember ts v
of_member [] v c = absurd (let none : ⊥ = omega (arith, c.1) in none)
of_member (t ∷ ts) v c =
    elim (Contains-append_cases (variables t) (flat_map variables ts) v c) [
      | inl d ↦ (t, member_first t ts, d)
      | inr d ↦ let rest = of_member ts v d in (rest.0, member_later t rest.0 ts rest.1, rest.2)
    ]

pub member_variable : (ts : List Term) (t : Term) (v : Variable) → Contains ts t → Contains (variables t) v → Contains (flat_map variables ts) v
member_variable [] t v c d = absurd (let none : ⊥ = omega (arith, c.1) in none)
member_variable (u ∷ ts) t v (zero, small, is) d = Contains-append_left (variables u) (flat_map variables ts) v (subst (λ x. Contains (variables x) v) (sym is) d)
member_variable (u ∷ ts) t v (suc i, small, is) d = Contains-append_right (variables u) (flat_map variables ts) v (member_variable ts t v (i, omega (arith, small), is) d)

-- what is made of the members
pub of_made : (f : Term → Term) (ts : List Term) (u : Term) → Contains (map f ts) u → (t : Term) × Contains ts t × (f t ≡ u)
of_made f [] u c = absurd (let none : ⊥ = omega (arith, c.1) in none)
of_made f (t ∷ ts) u (zero, small, is) = (t, member_first t ts, is)
of_made f (t ∷ ts) u (suc i, small, is) = let rest = of_made f ts u (i, omega (arith, small), is) in (rest.0, member_later t rest.0 ts rest.1, rest.2)

-- a variable of an instance is one of the term of a variable
abbrev pub FromVariable : List (Variable × Term) → Term → Variable → Type 0
FromVariable s t w = (v : Variable) × Contains (variables t) v × Contains (variables (image s v)) w

from_argument : (s : List (Variable × Term)) (ts : List Term) (w : Variable) → Each (λ t. Contains (variables (applied s t)) w → FromVariable s t w) ts →
    Contains (flat_map variables (map (applied s) ts)) w → (v : Variable) × Contains (flat_map variables ts) v × Contains (variables (image s v)) w
from_argument s [] w each c = absurd (let none : ⊥ = omega (arith, c.1) in none)
from_argument s (t ∷ ts) w each c =
    elim (Contains-append_cases (variables (applied s t)) (flat_map variables (map (applied s) ts)) w c) [
      | inl d ↦ let from = each.0 d in (from.0, Contains-append_left (variables t) (flat_map variables ts) from.0 from.1, from.2)
      | inr d ↦ let from = from_argument s ts w each.1 d in (from.0, Contains-append_right (variables t) (flat_map variables ts) from.0 from.1, from.2)
    ]

pub from_variable : (s : List (Variable × Term)) (w : Variable) (t : Term) → Contains (variables (applied s t)) w → FromVariable s t w
from_variable s w =
    by_terms (λ t. Contains (variables (applied s t)) w → FromVariable s t w)
    (λ v c. (v, member_first v [], c))
    (λ n c. absurd (let none : ⊥ = omega (arith, c.1) in none))
    (λ op ts each c.
    let made : variables (applied s (App op ts)) ≡ flat_map variables (map (applied s) ts) =
    ap variables (applied_app s op ts) ∙ variables_at (App op (map (applied s) ts)) op (map (applied s) ts) refl in
    let from = from_argument s ts w each (subst (λ vs. Contains vs w) made c) in
    (from.0, subst (λ vs. Contains vs from.0) (sym (variables_at (App op ts) op ts refl)) from.1, from.2))

-- equal terms have the same variables
turned_variables : (t u : Term) (w : Variable) → Contains (flat_map variables (t ∷ u ∷ [])) w → Contains (flat_map variables (u ∷ t ∷ [])) w
turned_variables t u w c =
    elim (Contains-append_cases (variables t) (variables u ++ []) w c) [
      | inl d ↦ member_variable (u ∷ t ∷ []) t w (member_later u t (t ∷ []) (member_first t [])) d
      | inr d ↦ elim (Contains-append_cases (variables u) [] w d) [
        | inl e ↦ member_variable (u ∷ t ∷ []) u w (member_first u (t ∷ [])) e
        | inr e ↦ absurd (let none : ⊥ = omega (arith, e.1) in none)
      ]
    ]

mutual
  pub same_has : {t u : Term} → Same t u → (w : Variable) → Contains (variables t) w → Contains (variables u) w
  same_has (itself t) w c = c
  same_has (through s t u p q) w c = same_has q w (same_has p w c)
  same_has (swapped op t u swaps) w c =
      subst (λ l. Contains l w) (sym (variables_at (App op (u ∷ t ∷ [])) op (u ∷ t ∷ []) refl))
      (turned_variables t u w (subst (λ l. Contains l w) (variables_at (App op (t ∷ u ∷ [])) op (t ∷ u ∷ []) refl) c))
  same_has (below op ts us p) w c =
      subst (λ l. Contains l w) (sym (variables_at (App op us) op us refl))
      (all_have p w (subst (λ l. Contains l w) (variables_at (App op ts) op ts refl) c))

  all_have : {ts us : List Term} → SameAll ts us → (w : Variable) → Contains (flat_map variables ts) w → Contains (flat_map variables us) w
  all_have nothing w c = c
  all_have (first t u ts us p q) w c =
      elim (Contains-append_cases (variables t) (flat_map variables ts) w c) [
        | inl d ↦ Contains-append_left (variables u) (flat_map variables us) w (same_has p w d)
        | inr d ↦ Contains-append_right (variables u) (flat_map variables us) w (all_have q w d)
      ]

-- numbers are below the end of the list
pub numbered_below : (k : ℕ) (vs : List Variable) (t : Term) → ((v : Variable) → Contains (variables t) v → Contains vs v) →
    (w : Variable) → Contains (variables (applied (numbered k vs) t)) w → w.num < k + length vs
numbered_below k vs t within w c =
    let from = from_variable (numbered k vs) w t c in
    let n = is_numbered k vs from.0 (within from.0 from.1) in
    let is : image (numbered k vs) from.0 ≡ Var (anew n.number from.0) = ap (λ o. unwrap_or o (Var from.0)) n.bound in
    let same : anew n.number from.0 ≡ w = only_member (anew n.number from.0) w (subst (λ u. Contains (variables u) w) is from.2) in
    subst (λ v. v.num < k + length vs) same n.within

-- each variable of the terms is among those that are numbered
pub among_once : (ts : List Term) (t : Term) → Contains ts t → (v : Variable) → Contains (variables t) v → Contains (variables_once ts) v
among_once ts t c v d = once_has [] (flat_map variables ts) v (member_variable ts t v c d)

pub renumbered_below : (ts : List Term) (w : Variable) → Contains (flat_map variables (renumbered ts)) w → w.num < length (variables_once ts)
renumbered_below ts w c =
    let of = of_member (renumbered ts) w c in
    let made = of_made (λ t. canonical (applied (numbering ts) t)) ts of.0 of.1 in
    let there : Contains (variables (canonical (applied (numbering ts) made.0))) w = subst (λ u. Contains (variables u) w) (sym made.2) of.2 in
    let same = canonical_same (applied (numbering ts) made.0) in
    let small : w.num < 0 + length (variables_once ts) = numbered_below 0 (variables_once ts) made.0 (among_once ts made.0 made.1) w (same_has (same_sym same) w there) in
    omega (arith, small)

-- numbers that are taken back leave the terms as they were
pub taken_back : (ts : List Term) (t : Term) → Contains ts t → applied (unnumbering ts) (applied (numbering ts) t) ≡ t
taken_back ts t c = unnumbered_numbered 0 (variables_once ts) t (among_once ts t c)

-- the terms cover the renumbered ones, and these the terms
covers_front : (s : List (Variable × Term)) (ts : List Term) → SameAll (map (applied s) ts) (map (λ t. canonical (applied s t)) ts)
covers_front s [] = nothing
covers_front s (t ∷ ts) = first (applied s t) (canonical (applied s t)) (map (applied s) ts) (map (λ u. canonical (applied s u)) ts) (canonical_same (applied s t)) (covers_front s ts)

pub terms_cover : (ts : List Term) → SameAll (map (applied (numbering ts)) ts) (renumbered ts)
terms_cover ts = covers_front (numbering ts) ts

covered_front : (s u : List (Variable × Term)) (ts : List Term) → ((t : Term) → Contains ts t → applied u (applied s t) ≡ t) →
    SameAll (map (applied u) (map (λ t. canonical (applied s t)) ts)) ts
covered_front s u [] back = nothing
covered_front s u (t ∷ ts) back =
    first (applied u (canonical (applied s t))) t (map (applied u) (map (λ w. canonical (applied s w)) ts)) ts
    (subst (Same (applied u (canonical (applied s t)))) (back t (member_first t ts)) (same_sym (same_applied u (canonical_same (applied s t)))))
    (covered_front s u ts (λ w c. back w (member_later t w ts c)))

pub renumbered_cover : (ts : List Term) → SameAll (map (applied (unnumbering ts)) (renumbered ts)) ts
renumbered_cover ts = covered_front (numbering ts) (unnumbering ts) ts (taken_back ts)
