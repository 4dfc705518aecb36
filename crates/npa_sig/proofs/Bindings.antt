-- Values for variables that are numbered by their places, as a substitution.
use Rattle.std.specs.Prelude.{unwrap_or}
use Rattle.std.specs.List.{flat_map}
use Rattle.std.proofs.Common.{◌≡◌, ℕ, zero, suc, ◌+◌, true, false, ◌&&◌, List, [], ◌∷◌, Some, map, slice_get, Contains, cond, nat_eq, refl, ap, sym, ◌∙◌, subst, arith}
use Rattle.std.proofs.lemmas.Bool.{and_from, eq-eqb, ne_eqb}
use Rattle.std.proofs.lemmas.List.Elements.{Contains-append_left, Contains-append_right}
use Rattle.std.proofs.lemmas.Option.{same_Some, none-some}
use Rattle.npa_sorts.specs.Subsorts.{IsAtOrBelow}
use Rattle.npa_sorts.proofs.Climbs.{decides}
use Rattle.npa_term.specs.declared.term.Var.{Var as Variable}
use Rattle.npa_term.specs.declared.term.Term.{Term, Var, App}
use Rattle.npa_term.specs.Bound.{value_of, applied, same_var}
use Rattle.npa_term.specs.Parts.{least_sort, image}
use Rattle.npa_term.specs.Variables.{variables}
use Rattle.npa_term.proofs.Induction.{Each, by_terms}
use Rattle.npa_term.proofs.Rows.{applied_app, variables_at}
use Rattle.npa_sig.specs.Signature.{Signature}
use Rattle.npa_sig.specs.Sorting.{all_below}
use Rattle.npa_sig.specs.Values.{under}
use Rattle.npa_sig.specs.WellFormed.{IsOwn}
use Rattle.npa_sig.proofs.SortedTerms.{below_at}
use Rattle.npa_sig.proofs.Under.{under_at}

-- a substitution and values that agree on a term's variables give one instance
pub applied_under : (s : List (Variable × Term)) (values : List Term) (t : Term) → ((v : Variable) → Contains (variables t) v → applied s (Var v) ≡ under values (Var v)) → applied s t ≡ under values t
applied_under s values =
    by_terms (λ t. ((v : Variable) → Contains (variables t) v → applied s (Var v) ≡ under values (Var v)) → applied s t ≡ under values t)
    (λ v alike. alike v (0, omega arith, refl)) (λ n alike. refl)
    (λ op ts each alike.
    let all : variables (App op ts) ≡ flat_map variables ts = variables_at (App op ts) op ts refl in
    applied_app s op ts ∙ ap (App op) (members ts each (λ v c. alike v (subst (λ (vs : List Variable). Contains vs v) (sym all) c))) ∙ sym (under_at values (App op ts) op ts refl))
  where
    members : (ts : List Term) → Each (λ t. ((v : Variable) → Contains (variables t) v → applied s (Var v) ≡ under values (Var v)) → applied s t ≡ under values t) ts →
        ((v : Variable) → Contains (flat_map variables ts) v → applied s (Var v) ≡ under values (Var v)) → map (applied s) ts ≡ map (under values) ts
    members [] each alike = refl
    members (t ∷ ts) each alike =
        ap (λ w. w ∷ map (applied s) ts) (each.0 (λ v c. alike v (Contains-append_left (variables t) (flat_map variables ts) v c)))
        ∙ ap (λ ws. under values t ∷ ws) (members ts each.1 (λ v c. alike v (Contains-append_right (variables t) (flat_map variables ts) v c)))

abbrev pub variable : ℕ → ℕ → Variable
variable n s = record { num = n; sort = s }

-- values for variables of these sorts, numbered from k, as a substitution
abbrev pub bindings : ℕ → List ℕ → List Term → List (Variable × Term)
bindings k [] values = []
bindings k (n ∷ ss) [] = []
bindings k (n ∷ ss) (t ∷ values) = (variable k n, t) ∷ bindings (k + 1) ss values

bound_at : (k : ℕ) (ss : List ℕ) (values : List Term) (i n : ℕ) (t : Term) → slice_get ss i ≡ Some n → slice_get values i ≡ Some t → value_of (bindings k ss values) (variable (k + i) n) ≡ Some t
bound_at k [] values i n t at there = absurd (none-some n at)
bound_at k (r ∷ ss) [] i n t at there = absurd (none-some t there)
bound_at k (r ∷ ss) (u ∷ values) zero n t at there =
    let place : k ≡ k + 0 = omega arith in
    let sort : r ≡ n = same_Some r n at in
    let here : same_var (variable k r) (variable (k + 0) n) ≡ true = and_from (nat_eq k (k + 0)) (nat_eq r n) (eq-eqb k (k + 0) place) (eq-eqb r n sort) in
    ap (λ b. cond b (Some u) (value_of (bindings (k + 1) ss values) (variable (k + 0) n))) here ∙ there
bound_at k (r ∷ ss) (u ∷ values) (suc i) n t at there =
    let other : nat_eq k (k + suc i) ≡ false = ne_eqb k (k + suc i) (λ (e : k ≡ k + suc i). let no : ⊥ = omega (arith, e) in no) in
    let place : (k + 1) + i ≡ k + suc i = omega arith in
    ap (λ b. cond (b && nat_eq r n) (Some u) (value_of (bindings (k + 1) ss values) (variable (k + suc i) n))) other
    ∙ ap (λ a. value_of (bindings (k + 1) ss values) (variable a n)) (sym place) ∙ bound_at (k + 1) ss values i n t at there

module _ (sig : Signature) (sorts : List ℕ) (values : List Term) (below : all_below sig (map least_sort values) sorts ≡ true) where
  -- the instance of a term over the variables
  pub as_bound : (t : Term) → IsOwn sorts t → applied (bindings 0 sorts values) t ≡ under values t
  as_bound t own = applied_under (bindings 0 sorts values) values t (λ v h.
      let x = below_at sig values sorts below v.num v.sort (own v h) in
      let place : 0 + v.num ≡ v.num = omega arith in
      let bound : value_of (bindings 0 sorts values) v ≡ Some x.term = ap (λ a. value_of (bindings 0 sorts values) (variable a v.sort)) (sym place) ∙ bound_at 0 sorts values v.num v.sort x.term (own v h) x.there in
      ap (λ q. unwrap_or q (Var v)) (bound ∙ sym x.there))

  -- which respects sorts
  pub bound_below : (v : Variable) → slice_get sorts v.num ≡ Some v.sort → (image (bindings 0 sorts values) v ≡ under values (Var v)) × IsAtOrBelow sig.sorts (least_sort (image (bindings 0 sorts values) v)) v.sort
  bound_below v own =
      let b = below_at sig values sorts below v.num v.sort own in
      let place : 0 + v.num ≡ v.num = omega arith in
      let bound : value_of (bindings 0 sorts values) v ≡ Some b.term = ap (λ a. value_of (bindings 0 sorts values) (variable a v.sort)) (sym place) ∙ bound_at 0 sorts values v.num v.sort b.term own b.there in
      let is : image (bindings 0 sorts values) v ≡ b.term = ap (λ o. unwrap_or o (Var v)) bound in (
        is ∙ sym (ap (λ o. unwrap_or o (Var v)) b.there),
        subst (λ n. IsAtOrBelow sig.sorts n v.sort) (sym (ap least_sort is)) ((decides sig.sorts (least_sort b.term) v.sort).0 b.below),
      )
