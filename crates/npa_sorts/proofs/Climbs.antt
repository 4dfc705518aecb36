-- The order that computes agrees with the order by steps.
use Rattle.std.proofs.Common.{◌≡◌, ℕ, ◌+◌, Bool, true, false, nat_eq, nat_le, ◌&&◌, List, [], ◌∷◌, refl, sym, ◌∙◌, subst, inl, inr, arith}
use Rattle.std.specs.Prelude.{◌↔◌, nat_lt}
use Rattle.std.proofs.lemmas.Bool.{or_cases, or_left, or_right, and_parts, and_from, eqb-true, eq-eqb, leb-true, le-leb, ltb-true, lt-ltb, false_from_ne_true}
use Rattle.std.proofs.lemmas.List.Elements.{Contains-append_left, Contains-append_right, Contains-append_cases}
use Rattle.npa_sorts.specs.Subsorts.{Subsorts, subsorts, IsSort, IsStep, pair, to_msg, IsBelow, step, climb, IsAtOrBelow, AreSorts, climbs, at_or_below}
use Rattle.npa_sorts.specs.Table.{with_pair}
use Rattle.npa_sorts.proofs.Steps.{bare, bare_below, below_bare, below_cases, below_by_pair, below_lower}

-- the order along a map of its steps
pub below_along : {o w : Subsorts} {s t : ℕ} → ((x y : ℕ) → IsStep o x y → IsStep w x y) → IsBelow o s t → IsBelow w s t
below_along along (step s t p) = step s t (along s t p)
below_along along (climb s t u p q) = climb s t u (along s t p) (below_along along q)

pub at_or_below_along : {o w : Subsorts} {s t : ℕ} → ((x y : ℕ) → IsStep o x y → IsStep w x y) → IsAtOrBelow o s t → IsAtOrBelow w s t
at_or_below_along along (inl e) = inl e
at_or_below_along along (inr p) = inr (below_along along p)

-- the first pair of a list and the last one say the same

step_to_last : (n : ℕ) (p : ℕ × ℕ) (ps : List (ℕ × ℕ)) {x y : ℕ} → IsStep (subsorts n (p ∷ ps)) x y → IsStep (with_pair (subsorts n ps) p.0 p.1) x y
step_to_last n p ps (pair x y c) =
    pair x y (elim (Contains-append_cases (p ∷ []) ps (x, y) c) [ inl d ↦ Contains-append_right ps ((p.0, p.1) ∷ []) (x, y) d | inr d ↦ Contains-append_left ps ((p.0, p.1) ∷ []) (x, y) d ])
step_to_last n p ps (to_msg x low high) = to_msg x low high

step_to_first : (n : ℕ) (p : ℕ × ℕ) (ps : List (ℕ × ℕ)) {x y : ℕ} → IsStep (with_pair (subsorts n ps) p.0 p.1) x y → IsStep (subsorts n (p ∷ ps)) x y
step_to_first n p ps (pair x y c) =
    pair x y (elim (Contains-append_cases ps ((p.0, p.1) ∷ []) (x, y) c) [ inl d ↦ Contains-append_right (p ∷ []) ps (x, y) d | inr d ↦ Contains-append_left (p ∷ []) ps (x, y) d ])
step_to_first n p ps (to_msg x low high) = to_msg x low high

step_to_rest : (n : ℕ) (p : ℕ × ℕ) (ps : List (ℕ × ℕ)) {x y : ℕ} → IsStep (subsorts n ps) x y → IsStep (subsorts n (p ∷ ps)) x y
step_to_rest n p ps (pair x y c) = pair x y (Contains-append_right (p ∷ []) ps (x, y) c)
step_to_rest n p ps (to_msg x low high) = to_msg x low high

climbs_bare : (n s t : ℕ) → (climbs n [] s t ≡ true) ↔ IsAtOrBelow (subsorts n []) s t
climbs_bare n s t = (
  λ is. elim (or_cases (nat_eq s t) (nat_eq t 0 && nat_le 2 s && nat_lt s (n + 2)) is) [
    | inl e ↦ inl (eqb-true s t e)
    | inr up ↦
        let parts = and_parts (nat_eq t 0 && nat_le 2 s) (nat_lt s (n + 2)) up in
        let more = and_parts (nat_eq t 0) (nat_le 2 s) parts.0 in
        inr (subst (IsBelow (bare n) s) (sym (eqb-true t 0 more.0)) (bare_below n s (leb-true 2 s more.1) (ltb-true s (n + 2) parts.1)))
  ],
  λ is. elim is [
    | inl e ↦ or_left (nat_eq s t) (nat_eq t 0 && nat_le 2 s && nat_lt s (n + 2)) (eq-eqb s t e)
    | inr p ↦
        let up = below_bare p in
        or_right (nat_eq s t) (nat_eq t 0 && nat_le 2 s && nat_lt s (n + 2))
        (and_from (nat_eq t 0 && nat_le 2 s) (nat_lt s (n + 2)) (and_from (nat_eq t 0) (nat_le 2 s) (eq-eqb t 0 up.0) (le-leb 2 s up.1)) (lt-ltb s (n + 2) up.2))
  ],
)

pub climbs_exact : (n : ℕ) (ps : List (ℕ × ℕ)) (s t : ℕ) → (climbs n ps s t ≡ true) ↔ IsAtOrBelow (subsorts n ps) s t
climbs_exact n [] s t = climbs_bare n s t
climbs_exact n (p ∷ ps) s t =
    let old : Bool = climbs n ps s t in
    let low : Bool = climbs n ps s p.0 in
    let high : Bool = climbs n ps p.1 t in
    let old_is = climbs_exact n ps s t in
    let low_is = climbs_exact n ps s p.0 in
    let high_is = climbs_exact n ps p.1 t in (
      λ is. elim (or_cases (climbs n ps s t) (climbs n ps s p.0 && climbs n ps p.1 t) is) [
        | inl e ↦ at_or_below_along (λ x y. step_to_rest n p ps) (old_is.0 e)
        | inr by ↦
            let parts = and_parts (climbs n ps s p.0) (climbs n ps p.1 t) by in
            inr (below_along (λ x y. step_to_first n p ps) (below_by_pair {o = subsorts n ps} {a = p.0} {b = p.1} (low_is.0 parts.0) (high_is.0 parts.1)))
      ],
      λ is. elim is [
        | inl e ↦ or_left (climbs n ps s t) (climbs n ps s p.0 && climbs n ps p.1 t) (old_is.1 (inl e))
        | inr q ↦ elim (below_cases {o = subsorts n ps} {a = p.0} {b = p.1} (below_along (λ x y. step_to_last n p ps) q)) [
          | inl r ↦ or_left (climbs n ps s t) (climbs n ps s p.0 && climbs n ps p.1 t) (old_is.1 (inr r))
          | inr by ↦ or_right (climbs n ps s t) (climbs n ps s p.0 && climbs n ps p.1 t)
              (and_from (climbs n ps s p.0) (climbs n ps p.1 t) (low_is.1 by.0) (high_is.1 by.1))
        ]
      ],
    )

pub decides : (o : Subsorts) (s t : ℕ) → (at_or_below o s t ≡ true) ↔ IsAtOrBelow o s t
decides o s t = climbs_exact o.declared o.pairs s t

-- a test that says when a sort is at or below another is the one that computes
pub is_at_or_below : (o : Subsorts) (s t : ℕ) (r : Bool) → ((r ≡ true) ↔ IsAtOrBelow o s t) → r ≡ at_or_below o s t
is_at_or_below o s t true says = sym ((decides o s t).1 (says.0 refl))
is_at_or_below o s t false says = sym (false_from_ne_true (at_or_below o s t) (λ e. let no : false ≡ true = says.1 ((decides o s t).0 e) in cc))

pub same_at_or_below : (o : Subsorts) (s t : ℕ) → s ≡ t → nat_eq s t ≡ at_or_below o s t
same_at_or_below o s t same = eq-eqb s t same ∙ sym ((decides o s t).1 (inl same))

pub below_decides : (o : Subsorts) (s t : ℕ) (r : Bool) → (s ≡ t → ⊥) → ((r ≡ true) ↔ IsBelow o s t) → r ≡ at_or_below o s t
below_decides o s t r other says = is_at_or_below o s t r (λ e. inr (says.0 e), λ p. elim p [ inl e ↦ absurd (other e) | inr q ↦ says.1 q ])

-- what is above a sort is a sort

pub step_upper : {o : Subsorts} {s t : ℕ} → AreSorts o → IsStep o s t → IsSort o t
step_upper {o} sorts (pair s t c) = subst (λ p. IsSort o p.1) c.2 (sorts c.0 (s, t) c.1).1
step_upper sorts (to_msg s low high) = omega arith

pub below_upper : {o : Subsorts} {s t : ℕ} → AreSorts o → IsBelow o s t → IsSort o t
below_upper sorts (step s t p) = step_upper sorts p
below_upper sorts (climb s t u p q) = below_upper sorts q

-- the test with the table, where both may be numbers of no sort
pub outside_not_below : {o p : Subsorts} {s t : ℕ} → p ≡ o → AreSorts p → (IsSort o s → IsSort o t → ⊥) → IsBelow o s t → ⊥
outside_not_below {o} {p} {s} {t} same sorts outside below =
    let known : AreSorts o = subst AreSorts same sorts in
    outside (below_lower known below) (below_upper known below)
