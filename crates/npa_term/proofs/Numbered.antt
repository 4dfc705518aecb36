-- Variables that are numbered anew.
use Rattle.std.proofs.lemmas.List.{drop_more, take_more, length-take-le}
use Rattle.std.proofs.Common.{◌≡◌, ℕ, zero, suc, ◌+◌, ◌<◌, ◌≤◌, true, false, cond, Some, None, List, [], ◌∷◌, ◌++◌, map, length, get_or, drop, take, refl, sym, ◌∙◌, ap, subst, arith}
use Rattle.std.specs.Prelude.{Contains, unwrap_or, nat_eq, ◌&&◌}
use Rattle.std.specs.List.{flat_map}
use Rattle.std.proofs.lemmas.List.Elements.{Contains-append_left, Contains-append_right}
use Rattle.npa_term.specs.declared.term.Var.{Var as Variable}
use Rattle.npa_term.specs.declared.term.Term.{Term, Var, App}
use Rattle.npa_term.specs.Bound.{same_var, value_of, applied, BindsOnce}
use Rattle.npa_term.specs.Numbering.{is_listed, once_after, anew, numbered, unnumbered, IsNumbered}
use Rattle.npa_term.specs.Parts.{least_sort}
use Rattle.npa_term.specs.Variables.{variables}
use Rattle.npa_term.proofs.Bindings.{binds_once-more}
use Rattle.npa_term.proofs.Equality.{var_equal, var_itself}
use Rattle.npa_term.proofs.Induction.{Each, by_terms}
use Rattle.npa_term.proofs.Rows.{applied_app, variables_at}

-- the variables that are seen by two lists
pub once_after-append : (seen vs ws : List Variable) → once_after seen (vs ++ ws) ≡ once_after (once_after seen vs) ws
once_after-append seen [] ws = refl
once_after-append seen (v ∷ vs) ws =
    elim (is_listed seen v) as (λ b. cond b (once_after seen (vs ++ ws)) (once_after (seen ++ v ∷ []) (vs ++ ws)) ≡ once_after (cond b (once_after seen vs) (once_after (seen ++ v ∷ []) vs)) ws) [
      | true ↦ once_after-append seen vs ws
      | false ↦ once_after-append (seen ++ v ∷ []) vs ws
    ]

-- numbers go on behind a list
pub numbered-append : (k : ℕ) (vs : List Variable) (v : Variable) → numbered k (vs ++ v ∷ []) ≡ numbered k vs ++ (v, Var (anew (k + length vs) v)) ∷ []
numbered-append k [] v = ap (λ n. (v, Var (anew n v)) ∷ []) (let e : k ≡ k + 0 = omega arith in e)
numbered-append k (w ∷ vs) v =
    ap (λ bs. (w, Var (anew k w)) ∷ bs)
    (numbered-append (k + 1) vs v ∙ ap (λ n. numbered (k + 1) vs ++ (v, Var (anew n v)) ∷ []) (let e : k + 1 + length vs ≡ k + suc (length vs) = omega arith in e))

-- a variable that isn't listed has no number
pub numbered_free : (k : ℕ) (vs : List Variable) (v : Variable) → is_listed vs v ≡ false → value_of (numbered k vs) v ≡ None
numbered_free k [] v e = refl
numbered_free k (w ∷ vs) v e =
    elim (same_var w v) as (λ b. cond b true (is_listed vs v) ≡ false → cond b (Some (Var (anew k w))) (value_of (numbered (k + 1) vs) v) ≡ None) [
      | true ↦ λ d. cc
      | false ↦ λ d. numbered_free (k + 1) vs v d
    ] e

-- each variable that is seen has one number
pub numbered_once : (seen vs : List Variable) → BindsOnce (numbered 0 seen) → BindsOnce (numbered 0 (once_after seen vs))
numbered_once seen [] once = once
numbered_once seen (v ∷ vs) once =
    elim (is_listed seen v) as (λ b. is_listed seen v ≡ b → BindsOnce (numbered 0 (cond b (once_after seen vs) (once_after (seen ++ v ∷ []) vs)))) [
      | true ↦ λ e. numbered_once seen vs once
      | false ↦ λ e. numbered_once (seen ++ v ∷ []) vs
          (subst BindsOnce (sym (numbered-append 0 seen v)) (binds_once-more (numbered 0 seen) v (Var (anew (0 + length seen) v)) once (numbered_free 0 seen v e)))
    ] refl

pub member_first : {X : Type 0} (x : X) (xs : List X) → Contains (x ∷ xs) x
member_first x xs = (zero, omega arith, refl)

pub member_later : {X : Type 0} (y x : X) (xs : List X) → Contains xs x → Contains (y ∷ xs) x
member_later y x xs (k, small, is) = (suc k, omega (arith, small), is)

pub listed : (vs : List Variable) (v : Variable) → is_listed vs v ≡ true → Contains vs v
listed [] v e = cc
listed (w ∷ ws) v e =
    elim (same_var w v) as (λ b. same_var w v ≡ b → cond b true (is_listed ws v) ≡ true → Contains (w ∷ ws) v) [
      | true ↦ λ d f. subst (Contains (w ∷ ws)) (var_equal w v d) (member_first w ws)
      | false ↦ λ d f. member_later w v ws (listed ws v f)
    ] refl e

-- what was seen stays, and each variable of the list is seen
pub once_keeps : (seen vs : List Variable) (v : Variable) → Contains seen v → Contains (once_after seen vs) v
once_keeps seen [] v c = c
once_keeps seen (w ∷ vs) v c =
    elim (is_listed seen w) as (λ b. Contains (cond b (once_after seen vs) (once_after (seen ++ w ∷ []) vs)) v) [
      | true ↦ once_keeps seen vs v c
      | false ↦ once_keeps (seen ++ w ∷ []) vs v (Contains-append_left seen (w ∷ []) v c)
    ]

pub once_has : (seen vs : List Variable) (v : Variable) → Contains vs v → Contains (once_after seen vs) v
once_has seen [] v c = absurd (let none : ⊥ = omega (arith, c.1) in none)
once_has seen (w ∷ vs) v (zero, small, is) =
    elim (is_listed seen w) as (λ b. is_listed seen w ≡ b → Contains (cond b (once_after seen vs) (once_after (seen ++ w ∷ []) vs)) v) [
      | true ↦ λ e. once_keeps seen vs v (subst (Contains seen) is (listed seen w e))
      | false ↦ λ e. once_keeps (seen ++ w ∷ []) vs v (Contains-append_right seen (w ∷ []) v (subst (Contains (w ∷ [])) is (member_first w [])))
    ] refl
once_has seen (w ∷ vs) v (suc k, small, is) =
    elim (is_listed seen w) as (λ b. Contains (cond b (once_after seen vs) (once_after (seen ++ w ∷ []) vs)) v) [
      | true ↦ once_has seen vs v (k, omega (arith, small), is)
      | false ↦ once_has (seen ++ w ∷ []) vs v (k, omega (arith, small), is)
    ]

-- the loops over terms and over their variables
pub seen_step : (seen new : List Variable) (ts : List Term) (i : ℕ) (t : Term) → i < length ts → t ≡ get_or ts i t → new ≡ once_after seen (variables t) →
    once_after new (flat_map variables (drop (i + 1) ts)) ≡ once_after seen (flat_map variables (drop i ts))
seen_step seen new ts i t small is e =
    let this : drop i ts ≡ t ∷ drop (i + 1) ts = drop_more ts i t small ∙ ap (λ u. u ∷ drop (i + 1) ts) (sym is) in
    ap (λ vs. once_after vs (flat_map variables (drop (i + 1) ts))) e
    ∙ sym (ap (λ us. once_after seen (flat_map variables us)) this ∙ once_after-append seen (variables t) (flat_map variables (drop (i + 1) ts)))

pub number_step : (bs : List (Variable × Term)) (vs : List Variable) (i n : ℕ) (d : Variable) → i < length vs → n ≡ i → bs ≡ numbered 0 (take i vs) →
    bs ++ (get_or vs i d, Var (anew n (get_or vs i d))) ∷ [] ≡ numbered 0 (take (i + 1) vs)
number_step bs vs i n d small same e =
    let v = get_or vs i d in
    let longer : take (i + 1) vs ≡ take i vs ++ v ∷ [] = take_more vs i d small in
    let counted : length (take i vs) ≡ i = length-take-le i vs (omega (arith, small)) in
    let place : n ≡ 0 + length (take i vs) = omega (arith, same, counted) in
    ap (λ cs. cs ++ (v, Var (anew n v)) ∷ []) e ∙ ap (λ m. numbered 0 (take i vs) ++ (v, Var (anew m v)) ∷ []) place
    ∙ sym (ap (numbered 0) longer ∙ numbered-append 0 (take i vs) v)

-- a listed variable has a number that leads back to it
same_numbered : (k : ℕ) (vs : List Variable) (w v : Variable) → w ≡ v → IsNumbered k (w ∷ vs) v
same_numbered k vs w v is = subst (λ x. IsNumbered k (x ∷ vs) v) (sym is) (record {
  number = k;
  from = omega arith;
  within = omega arith;
  bound = ap (λ b. cond b (Some (Var (anew k v))) (value_of (numbered (k + 1) vs) v)) (var_itself v);
  back = ap (λ b. cond b (Some (Var v)) (value_of (unnumbered (k + 1) vs) (anew k v))) (var_itself (anew k v));
})

other_place : (k n s t : ℕ) → k + 1 ≤ n → (nat_eq k n && nat_eq s t) ≡ false
other_place k n s t later = grind arith

later_numbered : (k : ℕ) (vs : List Variable) (w v : Variable) → same_var w v ≡ false → IsNumbered (k + 1) vs v → IsNumbered k (w ∷ vs) v
later_numbered k vs w v other n = record {
  number = n.number;
  from = omega (arith, n.from);
  within = omega (arith, n.within);
  bound = ap (λ b. cond b (Some (Var (anew k w))) (value_of (numbered (k + 1) vs) v)) other ∙ n.bound;
  back = ap (λ b. cond b (Some (Var w)) (value_of (unnumbered (k + 1) vs) (anew n.number v))) (other_place k n.number w.sort v.sort n.from) ∙ n.back;
}

by_test : (k : ℕ) (vs : List Variable) (w v : Variable) → (same_var w v ≡ false → IsNumbered (k + 1) vs v) → IsNumbered k (w ∷ vs) v
by_test k vs w v rest =
    elim (same_var w v) as (λ b. same_var w v ≡ b → IsNumbered k (w ∷ vs) v) [
      | true ↦ λ e. same_numbered k vs w v (var_equal w v e)
      | false ↦ λ e. later_numbered k vs w v e (rest e)
    ] refl

pub is_numbered : (k : ℕ) (vs : List Variable) (v : Variable) → Contains vs v → IsNumbered k vs v
is_numbered k [] v c = absurd (let none : ⊥ = omega (arith, c.1) in none)
is_numbered k (w ∷ vs) v (zero, small, is) = same_numbered k vs w v is
is_numbered k (w ∷ vs) v (suc i, small, is) = by_test k vs w v (λ e. is_numbered (k + 1) vs v (i, omega (arith, small), is))

-- what holds of each variable of each member
pub from_members : (P : Term → Type 0) (vs : List Variable) (ts : List Term) → Each (λ t. ((v : Variable) → Contains (variables t) v → Contains vs v) → P t) ts →
    ((v : Variable) → Contains (flat_map variables ts) v → Contains vs v) → Each P ts
from_members P vs [] each within = tt
from_members P vs (t ∷ ts) each within = (
  each.0 (λ v c. within v (Contains-append_left (variables t) (flat_map variables ts) v c)),
  from_members P vs ts each.1 (λ v c. within v (Contains-append_right (variables t) (flat_map variables ts) v c)),
)

both_members : (s u : List (Variable × Term)) (ts : List Term) → Each (λ t. applied u (applied s t) ≡ t) ts → map (applied u) (map (applied s) ts) ≡ ts
both_members s u [] each = refl
both_members s u (t ∷ ts) each = ap (λ w. w ∷ map (applied u) (map (applied s) ts)) each.0 ∙ ap (λ ws. t ∷ ws) (both_members s u ts each.1)

-- numbers that are taken back leave a term over the list as it was
pub unnumbered_numbered : (k : ℕ) (vs : List Variable) (t : Term) → ((v : Variable) → Contains (variables t) v → Contains vs v) →
    applied (unnumbered k vs) (applied (numbered k vs) t) ≡ t
unnumbered_numbered k vs =
    let s = numbered k vs in
    let u = unnumbered k vs in
    by_terms (λ t. ((v : Variable) → Contains (variables t) v → Contains vs v) → applied u (applied s t) ≡ t)
    (λ v within.
    let n = is_numbered k vs v (within v (member_first v [])) in
    ap (applied u) (ap (λ o. unwrap_or o (Var v)) n.bound) ∙ ap (λ o. unwrap_or o (Var (anew n.number v))) n.back)
    (λ n within. refl)
    (λ op ts each within.
    let whole : variables (App op ts) ≡ flat_map variables ts = variables_at (App op ts) op ts refl in
    ap (applied u) (applied_app s op ts) ∙ applied_app u op (map (applied s) ts)
    ∙ ap (App op) (both_members s u ts (from_members (λ t. applied u (applied s t) ≡ t) vs ts each (λ v c. within v (subst (λ ws. Contains ws v) (sym whole) c)))))

-- sorts stay, whether a variable is numbered or not
pub numbered_sort : (k : ℕ) (vs : List Variable) (v : Variable) → least_sort (unwrap_or (value_of (numbered k vs) v) (Var v)) ≡ v.sort
numbered_sort k [] v = refl
numbered_sort k (w ∷ vs) v =
    elim (same_var w v) as (λ b. same_var w v ≡ b → least_sort (unwrap_or (cond b (Some (Var (anew k w))) (value_of (numbered (k + 1) vs) v)) (Var v)) ≡ v.sort) [
      | true ↦ λ e. ap (λ x. x.sort) (var_equal w v e)
      | false ↦ λ e. numbered_sort (k + 1) vs v
    ] refl

pub unnumbered_sort : (k : ℕ) (vs : List Variable) (v : Variable) → least_sort (unwrap_or (value_of (unnumbered k vs) v) (Var v)) ≡ v.sort
unnumbered_sort k [] v = refl
unnumbered_sort k (w ∷ vs) v =
    elim (same_var (anew k w) v) as (λ b. same_var (anew k w) v ≡ b → least_sort (unwrap_or (cond b (Some (Var w)) (value_of (unnumbered (k + 1) vs) v)) (Var v)) ≡ v.sort) [
      | true ↦ λ e. ap (λ x. x.sort) (var_equal (anew k w) v e)
      | false ↦ λ e. unnumbered_sort (k + 1) vs v
    ] refl
