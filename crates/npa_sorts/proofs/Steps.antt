-- The order of sorts, and what one more pair adds to it.
use Rattle.std.proofs.Common.{◌≡◌, ◌≢◌, ℕ, zero, suc, ◌+◌, ◌<◌, ◌≤◌, true, false, List, [], ◌∷◌, length, get_or, position, Some, None, refl, sym, ◌∙◌, ap, subst, inl, inr, arith}
use Rattle.std.proofs.lemmas.Iterator.Adapters.{position_from-zero}
use Rattle.std.specs.List.{position_from}
use Rattle.std.specs.Prelude.{cond, Contains, ◌⊎◌}
use Rattle.std.proofs.lemmas.List.Elements.{Contains-append_left, Contains-append_right, Contains-append_cases}
use Rattle.npa_sorts.specs.Table.{with_pair}
use Rattle.npa_sorts.specs.Subsorts.{Subsorts, IsSort, IsStep, pair, to_msg, IsBelow, step, climb, IsAtOrBelow, names_fresh, AreSorts}

pub below_trans : {o : Subsorts} {s t u : ℕ} → IsBelow o s t → IsBelow o t u → IsBelow o s u
below_trans {u = u} (step s t p) q = climb s t u p q
below_trans {u = u} (climb s t v p r) q = climb s t u p (below_trans r q)

pub at_or_below_below : {o : Subsorts} {s t u : ℕ} → IsAtOrBelow o s t → IsBelow o t u → IsBelow o s u
at_or_below_below {o} {s} {t} {u} (inl e) q = subst (λ x. IsBelow o x u) (sym e) q
at_or_below_below (inr p) q = below_trans p q

pub below_at_or_below : {o : Subsorts} {s t u : ℕ} → IsBelow o s t → IsAtOrBelow o t u → IsBelow o s u
below_at_or_below {o} {s} p (inl e) = subst (IsBelow o s) e p
below_at_or_below p (inr q) = below_trans p q

pub at_or_below_trans : {o : Subsorts} {s t u : ℕ} → IsAtOrBelow o s t → IsAtOrBelow o t u → IsAtOrBelow o s u
at_or_below_trans {o} {u = u} (inl e) q = subst (λ x. IsAtOrBelow o x u) (sym e) q
at_or_below_trans (inr p) q = inr (below_at_or_below p q)

-- the one member of a list of one
pub contains_one : {X : Type 0} (x y : X) → Contains (x ∷ []) y → x ≡ y
contains_one x y (zero, small, is) = is
contains_one x y (suc k, small, is) = absurd (let no : ⊥ = omega (arith, small) in no)

-- a step of the order with one more pair is an old one or the new pair
step_cases : {o : Subsorts} {a b s t : ℕ} → IsStep (with_pair o a b) s t → IsStep o s t ⊎ ((s ≡ a) × (t ≡ b))
step_cases {o} {a} {b} (pair s t c) =
    elim (Contains-append_cases o.pairs ((a, b) ∷ []) (s, t) c) [
      | inl d ↦ inl (pair s t d)
      | inr d ↦ let e : (a, b) ≡ (s, t) = contains_one (a, b) (s, t) d in inr (sym (ap (λ p. p.0) e), sym (ap (λ p. p.1) e))
    ]
step_cases (to_msg s low high) = inl (to_msg s low high)

step_more : {o : Subsorts} (a b : ℕ) {s t : ℕ} → IsStep o s t → IsStep (with_pair o a b) s t
step_more {o} a b (pair s t c) = pair s t (Contains-append_left o.pairs ((a, b) ∷ []) (s, t) c)
step_more a b (to_msg s low high) = to_msg s low high

pub below_more : {o : Subsorts} (a b : ℕ) {s t : ℕ} → IsBelow o s t → IsBelow (with_pair o a b) s t
below_more a b (step s t p) = step s t (step_more a b p)
below_more a b (climb s t u p q) = climb s t u (step_more a b p) (below_more a b q)

at_or_below_more : {o : Subsorts} (a b : ℕ) {s t : ℕ} → IsAtOrBelow o s t → IsAtOrBelow (with_pair o a b) s t
at_or_below_more a b (inl e) = inl e
at_or_below_more a b (inr p) = inr (below_more a b p)

-- what is strictly below with one more pair was so before, or is by that pair
pub below_cases : {o : Subsorts} {a b s t : ℕ} → IsBelow (with_pair o a b) s t → IsBelow o s t ⊎ (IsAtOrBelow o s a × IsAtOrBelow o b t)
below_cases (step s t p) =
    elim (step_cases p) [ inl q ↦ inl (step s t q) | inr e ↦ inr (inl e.0, inl (sym e.1)) ]
below_cases {o} {a} {b} (climb s t u p r) =
    elim (step_cases p) [
      | inl q ↦ elim (below_cases r) [
        | inl below ↦ inl (climb s t u q below)
        | inr by ↦ inr (at_or_below_trans (inr (step s t q)) by.0, by.1)
      ]
      | inr e ↦ elim (below_cases r) [
        | inl below ↦ inr (inl e.0, inr (subst (λ x. IsBelow o x u) e.1 below))
        | inr by ↦ inr (inl e.0, by.1)
      ]
    ]

-- and what was below the pair is now below what was above it
pub below_by_pair : {o : Subsorts} {a b s t : ℕ} → IsAtOrBelow o s a → IsAtOrBelow o b t → IsBelow (with_pair o a b) s t
below_by_pair {o} {a} {b} low high =
    let new : IsBelow (with_pair o a b) a b = step a b (pair a b (Contains-append_right o.pairs ((a, b) ∷ []) (a, b) (zero, omega arith, refl))) in
    at_or_below_below (at_or_below_more a b low) (below_at_or_below new (at_or_below_more a b high))

-- the order with no pair: declared sorts are below `Msg`
abbrev pub bare : ℕ → Subsorts
bare n = record { declared = n; pairs = [] }

step_bare : {n s t : ℕ} → IsStep (bare n) s t → (t ≡ 0) × (2 ≤ s) × (s < n + 2)
step_bare (pair s t c) = absurd (let no : ⊥ = omega (arith, c.1) in no)
step_bare (to_msg s low high) = (refl, low, high)

pub below_bare : {n s t : ℕ} → IsBelow (bare n) s t → (t ≡ 0) × (2 ≤ s) × (s < n + 2)
below_bare (step s t p) = step_bare p
below_bare (climb s t u p q) =
    let up = step_bare p in
    let on = below_bare q in
    absurd (let no : ⊥ = omega (arith, up.0, on.1) in no)

pub bare_below : (n s : ℕ) → 2 ≤ s → s < n + 2 → IsBelow (bare n) s 0
bare_below n s low high = step s 0 (to_msg s low high)

-- what is below a sort is a sort
step_lower : {o : Subsorts} {s t : ℕ} → AreSorts o → IsStep o s t → IsSort o s
step_lower {o} sorts (pair s t c) = subst (λ p. IsSort o p.0) c.2 (sorts c.0 (s, t) c.1).0
step_lower sorts (to_msg s low high) = high

pub below_lower : {o : Subsorts} {s t : ℕ} → AreSorts o → IsBelow o s t → IsSort o s
below_lower sorts (step s t p) = step_lower sorts p
below_lower sorts (climb s t u p q) = step_lower sorts p

none_from : (ps : List (ℕ × ℕ)) (n k : ℕ) (d : ℕ × ℕ) → position_from names_fresh n ps ≡ None → k < length ps → names_fresh (get_or ps k d) ≡ false
none_from [] n k d none small = absurd (let no : ⊥ = omega (arith, small) in no)
none_from (p ∷ ps) n zero d none small =
    elim (names_fresh p) as (λ b. cond b (Some n) (position_from names_fresh (n + 1) ps) ≡ None → b ≡ false) [ true ↦ λ e. cc | false ↦ λ e. refl ] none
none_from (p ∷ ps) n (suc k) d none small =
    let rest : position_from names_fresh (n + 1) ps ≡ None =
    elim (names_fresh p) as (λ b. cond b (Some n) (position_from names_fresh (n + 1) ps) ≡ None → position_from names_fresh (n + 1) ps ≡ None) [ true ↦ λ e. cc | false ↦ λ e. e ] none in
    none_from ps (n + 1) k d rest (omega arith)

position_none : (ps : List (ℕ × ℕ)) (p : ℕ × ℕ) → position names_fresh ps ≡ None → Contains ps p → names_fresh p ≡ false
position_none ps p none c =
    subst (λ q. names_fresh q ≡ false) c.2 (none_from ps 0 c.0 p (sym (position_from-zero names_fresh ps) ∙ none) c.1)

-- `Fresh` stands alone where no pair names it

no_fresh_step : {o : Subsorts} {s t : ℕ} → position names_fresh o.pairs ≡ None → IsStep o s t → (s ≢ 1) × (t ≢ 1)
no_fresh_step {o} none (pair s t c) =
    let not_named : names_fresh (s, t) ≡ false = position_none o.pairs (s, t) none c in
    (λ e. let no : ⊥ = grind arith in no, λ e. let no : ⊥ = grind arith in no)
no_fresh_step none (to_msg s low high) = (λ e. let no : ⊥ = omega arith in no, λ e. let no : ⊥ = omega (arith, e) in no)

pub fresh_not_below : {o : Subsorts} {s t : ℕ} → position names_fresh o.pairs ≡ None → IsBelow o s t → (s ≢ 1) × (t ≢ 1)
fresh_not_below none (step s t p) = no_fresh_step none p
fresh_not_below none (climb s t u p q) = ((no_fresh_step none p).0, (fresh_not_below none q).1)

-- what is at or below a sort is a sort
pub at_or_below_sort : (o : Subsorts) (s t : ℕ) → AreSorts o → IsAtOrBelow o s t → IsSort o t → IsSort o s
at_or_below_sort o s t sorts (inl e) high = subst (IsSort o) (sym e) high
at_or_below_sort o s t sorts (inr p) high = below_lower sorts p

-- the laws of an order without cycles

pub at_or_below_antisym : (o : Subsorts) → ((s : ℕ) → IsBelow o s s → ⊥) → (s t : ℕ) → IsAtOrBelow o s t → IsAtOrBelow o t s → s ≡ t
at_or_below_antisym o acyclic s t (inl e) q = e
at_or_below_antisym o acyclic s t (inr p) q = absurd (acyclic s (below_at_or_below p q))

pub declared_below_msg : (o : Subsorts) (s : ℕ) → 2 ≤ s → IsSort o s → IsAtOrBelow o s 0
declared_below_msg o s low high = inr (step s 0 (to_msg s low high))
