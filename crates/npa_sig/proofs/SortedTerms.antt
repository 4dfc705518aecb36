-- Well-sorted terms: their arguments, their canonical forms, and terms in which values of the right
-- sorts stand for the variables.
use Rattle.std.proofs.Common.{◌≡◌, ℕ, zero, suc, ◌==◌, ◌&&◌, Bool, true, false, List, [], ◌∷◌, Option, None, Some, map, slice_get, Contains, inl, refl, ap, sym, ◌∙◌, subst, arith}
use Rattle.std.specs.List.{list_all, flat_map}
use Rattle.std.specs.Prelude.{unwrap_or}
use Rattle.std.proofs.lemmas.Bool.{and_parts, and_from, eqb-true}
use Rattle.std.proofs.lemmas.List.Elements.{Contains-append_left, Contains-append_right}
use Rattle.std.proofs.lemmas.Option.{same_Some, none-some}
use Rattle.npa_sorts.proofs.Climbs.{decides}
use Rattle.npa_sorts.proofs.Steps.{at_or_below_trans}
use Rattle.npa_term.specs.declared.term.Op.{Op}
use Rattle.npa_term.specs.declared.term.Var.{Var as Variable}
use Rattle.npa_term.specs.declared.term.Term.{Term, Var, App}
use Rattle.npa_term.specs.Agreeing.{Agrees}
use Rattle.npa_term.specs.Canonical.{canonical, ordered}
use Rattle.npa_term.specs.Variables.{variables, IsGround}
use Rattle.npa_term.proofs.AgreeingLaws.{agrees_app}
use Rattle.npa_term.proofs.CanonicalLaws.{by_order}
use Rattle.npa_term.proofs.GroundLaws.{ground_app, ground_canonical}
use Rattle.npa_term.proofs.Induction.{Each, by_terms}
use Rattle.npa_term.proofs.Rows.{canonical_app, variables_at}
use Rattle.npa_sig.specs.declared.signature.OpDecl.{OpDecl}
use Rattle.npa_sig.specs.Signature.{Signature, is_pair}
use Rattle.npa_sig.specs.Sorting.{is_below, same_bool, agrees, all_below, is_declared, well_sorted, IsGroundTerm}
use Rattle.npa_term.specs.Parts.{least_sort}
use Rattle.npa_sig.proofs.Rows.{well_sorted_at}
use Rattle.npa_sig.specs.Values.{under}
use Rattle.npa_sig.specs.WellFormed.{IsOwn, IsTermOver}
use Rattle.npa_sig.proofs.Under.{under_at}

abbrev pub operator : ℕ → Option OpDecl → Op
operator n None = record { num = n; result = 0; «com» = false }
operator n (Some decl) = record { num = n; result = decl.result; «com» = decl.«com» }

module _ (sig : Signature) where
  abbrev pub IsSorted : Term → Type 0
  IsSorted t = well_sorted sig t ≡ true

  pub below_itself : (s : ℕ) → is_below sig s s ≡ true
  below_itself s = (decides sig.sorts s s).1 (inl refl)

  pub below_through : (s t u : ℕ) → is_below sig s t ≡ true → is_below sig t u ≡ true → is_below sig s u ≡ true
  below_through s t u a b = (decides sig.sorts s u).1 (at_or_below_trans ((decides sig.sorts s t).0 a) ((decides sig.sorts t u).0 b))

  each_sorted : (ts : List Term) → list_all (well_sorted sig) ts ≡ true → Each IsSorted ts
  each_sorted [] e = tt
  each_sorted (t ∷ ts) e = let both = and_parts (well_sorted sig t) (list_all (well_sorted sig) ts) e in (both.0, each_sorted ts both.1)

  sorted_each : (ts : List Term) → Each IsSorted ts → list_all (well_sorted sig) ts ≡ true
  sorted_each [] each = refl
  sorted_each (t ∷ ts) each = and_from (well_sorted sig t) (list_all (well_sorted sig) ts) each.0 (sorted_each ts each.1)

  -- the operator is declared so for these arguments
  record Fits (op : Op) (ts : List Term) : Type 0 where
    decl : OpDecl
    there : slice_get sig.ops op.num ≡ Some decl
    same : agrees op decl ≡ true
    below : all_below sig (map least_sort ts) decl.args ≡ true

  fits : (op : Op) (ts : List Term) → is_declared sig op (map least_sort ts) (slice_get sig.ops op.num) ≡ true → Fits op ts
  fits op ts e = by (slice_get sig.ops op.num) refl e
    where
      by : (o : Option OpDecl) → slice_get sig.ops op.num ≡ o → is_declared sig op (map least_sort ts) o ≡ true → Fits op ts
      by None at f = cc
      by (Some decl) at f = let both = and_parts (agrees op decl) (all_below sig (map least_sort ts) decl.args) f in record { decl = decl; there = at; same = both.0; below = both.1 }

  fit_declared : (op : Op) (ts : List Term) → Fits op ts → is_declared sig op (map least_sort ts) (slice_get sig.ops op.num) ≡ true
  fit_declared op ts f = ap (is_declared sig op (map least_sort ts)) f.there ∙ and_from (agrees op f.decl) (all_below sig (map least_sort ts) f.decl.args) f.same f.below

  -- an application is well sorted where its operator fits its arguments and these are well sorted
  sorted_app : (op : Op) (ts : List Term) → Fits op ts → Each IsSorted ts → IsSorted (App op ts)
  sorted_app op ts f each = well_sorted_at sig (App op ts) op ts refl
      ∙ and_from (is_declared sig op (map least_sort ts) (slice_get sig.ops op.num)) (list_all (well_sorted sig) ts) (fit_declared op ts f) (sorted_each ts each)

  app_sorted : (op : Op) (ts : List Term) → IsSorted (App op ts) → Fits op ts × Each IsSorted ts
  app_sorted op ts e =
      let both = and_parts (is_declared sig op (map least_sort ts) (slice_get sig.ops op.num)) (list_all (well_sorted sig) ts) (sym (well_sorted_at sig (App op ts) op ts refl) ∙ e) in
      (fits op ts both.0, each_sorted ts both.1)

  -- and then its arguments are
  pub arguments_sorted : (op : Op) (ts : List Term) → IsSorted (App op ts) → Each IsSorted ts
  arguments_sorted op ts e = (app_sorted op ts e).1

  -- the operator of a number, as it is declared
  abbrev pub declaration : ℕ → Op
  declaration n = operator n (slice_get sig.ops n)

  equal_bools : (a b : Bool) → same_bool a b ≡ true → a ≡ b
  equal_bools true b e = sym e
  equal_bools false true e = cc
  equal_bools false false e = refl

  declared_op : (op : Op) (ts : List Term) → Fits op ts → op ≡ declaration op.num
  declared_op op ts f =
      let both = and_parts (op.result == f.decl.result) (same_bool op.com f.decl.com) f.same in
      let result : op.result ≡ f.decl.result = eqb-true op.result f.decl.result both.0 in
      let com_ : op.com ≡ f.decl.com = equal_bools op.com f.decl.com both.1 in
      let is : op ≡ record { num = op.num; result = f.decl.result; «com» = f.decl.com } = λ j. record { num = op.num; result = result j; «com» = com_ j } in
      is ∙ sym (ap (operator op.num) f.there)

  -- the operators of a well-sorted term are the declared ones
  pub sorted_agrees : (t : Term) → IsSorted t → Agrees declaration t
  sorted_agrees =
      by_terms (λ t. IsSorted t → Agrees declaration t) (λ v s. tt) (λ n s. tt)
      (λ op ts each s. let parts = app_sorted op ts s in agrees_app declaration op ts (declared_op op ts parts.0) (members ts each parts.1))
    where
      members : (ts : List Term) → Each (λ t. IsSorted t → Agrees declaration t) ts → Each IsSorted ts → Each (Agrees declaration) ts
      members [] each sorted = tt
      members (t ∷ ts) each sorted = (each.0 sorted.0, members ts each.1 sorted.1)

  -- the canonical form is of the term's sort
  pub sort_canonical : (t : Term) → least_sort (canonical t) ≡ least_sort t
  sort_canonical = by_terms (λ t. least_sort (canonical t) ≡ least_sort t) (λ v. refl) (λ n. refl) (λ op ts each. ap least_sort (canonical_app op ts))

  sorts_canonical : (ts : List Term) → map least_sort (map canonical ts) ≡ map least_sort ts
  sorts_canonical [] = refl
  sorts_canonical (t ∷ ts) = ap (λ s. s ∷ map least_sort (map canonical ts)) (sort_canonical t) ∙ ap (λ ss. least_sort t ∷ ss) (sorts_canonical ts)

  swapped_below : (s t : ℕ) (sorts : List ℕ) → is_pair sorts ≡ true → all_below sig (s ∷ t ∷ []) sorts ≡ true → all_below sig (t ∷ s ∷ []) sorts ≡ true
  swapped_below s t [] p e = cc
  swapped_below s t (a ∷ []) p e = cc
  swapped_below s t (a ∷ b ∷ c ∷ sorts) p e = cc
  swapped_below s t (a ∷ b ∷ []) p e =
      let same : a ≡ b = eqb-true a b p in
      let first = and_parts (is_below sig s a) (is_below sig t b && true) e in
      let second = and_parts (is_below sig t b) true first.1 in
      and_from (is_below sig t a) (is_below sig s b && true) (subst (λ x. is_below sig t x ≡ true) (sym same) second.0)
      (and_from (is_below sig s b) true (subst (λ x. is_below sig s x ≡ true) same first.0) refl)

  module _ (pairs : (k : ℕ) (decl : OpDecl) → slice_get sig.ops k ≡ Some decl → decl.com ≡ true → is_pair decl.args ≡ true) where
    -- and it is well sorted where the term is
    pub canonical_sorted : (t : Term) → IsSorted t → IsSorted (canonical t)
    canonical_sorted =
        by_terms (λ t. IsSorted t → IsSorted (canonical t)) (λ v s. s) (λ n s. s)
        (λ op ts each s.
        let parts = app_sorted op ts s in
        let made : Fits op (map canonical ts) × Each IsSorted (map canonical ts) = (at_canonical op ts parts.0, members ts each parts.1) in
        let good = by_order (λ us. Fits op us × Each IsSorted us) op (map canonical ts) made
        (λ t u e swaps above.
        let two : Fits op (t ∷ u ∷ []) × Each IsSorted (t ∷ u ∷ []) = subst (λ (us : List Term). Fits op us × Each IsSorted us) e made in
        (turned op t u swaps two.0, (two.1.1.0, (two.1.0, tt)))) in
        subst IsSorted (sym (canonical_app op ts)) (sorted_app op (ordered op (map canonical ts)) good.0 good.1))
      where
        members : (ts : List Term) → Each (λ t. IsSorted t → IsSorted (canonical t)) ts → Each IsSorted ts → Each IsSorted (map canonical ts)
        members [] each sorted = tt
        members (t ∷ ts) each sorted = (each.0 sorted.0, members ts each.1 sorted.1)

        at_canonical : (op : Op) (ts : List Term) → Fits op ts → Fits op (map canonical ts)
        at_canonical op ts f = record { decl = f.decl; there = f.there; same = f.same; below = ap (λ ss. all_below sig ss f.decl.args) (sorts_canonical ts) ∙ f.below }

        turned : (op : Op) (t u : Term) → op.com ≡ true → Fits op (t ∷ u ∷ []) → Fits op (u ∷ t ∷ [])
        turned op t u swaps f =
            let both = and_parts (op.result == f.decl.result) (same_bool op.com f.decl.com) f.same in
            let com_ : f.decl.com ≡ true = sym (equal_bools op.com f.decl.com both.1) ∙ swaps in
            record { decl = f.decl; there = f.there; same = f.same; below = swapped_below (least_sort t) (least_sort u) f.decl.args (pairs op.num f.decl f.there com_) f.below }

    pub canonical_ground : (t : Term) → IsGroundTerm sig t → IsGroundTerm sig (canonical t)
    canonical_ground t g = record { sorted = canonical_sorted t g.sorted; ground = ground_canonical t g.ground }

  -- the sort at a place is at or below the one at the same place
  pub record BelowAt (terms : List Term) (i s : ℕ) : Type 0 where
    pub term : Term
    pub there : slice_get terms i ≡ Some term
    pub below : is_below sig (least_sort term) s ≡ true

  pub below_at : (terms : List Term) (sorts : List ℕ) → all_below sig (map least_sort terms) sorts ≡ true → (i s : ℕ) → slice_get sorts i ≡ Some s → BelowAt terms i s
  below_at [] [] e i s at = absurd (none-some s at)
  below_at [] (r ∷ sorts) e i s at = cc
  below_at (t ∷ terms) [] e i s at = cc
  below_at (t ∷ terms) (r ∷ sorts) e zero s at =
      record { term = t; there = refl; below = subst (λ x. is_below sig (least_sort t) x ≡ true) (same_Some r s at) (and_parts (is_below sig (least_sort t) r) (all_below sig (map least_sort terms) sorts) e).0 }
  below_at (t ∷ terms) (r ∷ sorts) e (suc i) s at =
      let x = below_at terms sorts (and_parts (is_below sig (least_sort t) r) (all_below sig (map least_sort terms) sorts) e).1 i s at in
      record { term = x.term; there = x.there; below = x.below }

  all_below_through : (ss ts us : List ℕ) → all_below sig ss ts ≡ true → all_below sig ts us ≡ true → all_below sig ss us ≡ true
  all_below_through [] [] us a b = b
  all_below_through [] (t ∷ ts) us a b = cc
  all_below_through (s ∷ ss) [] us a b = cc
  all_below_through (s ∷ ss) (t ∷ ts) [] a b = cc
  all_below_through (s ∷ ss) (t ∷ ts) (u ∷ us) a b =
      let first = and_parts (is_below sig s t) (all_below sig ss ts) a in
      let second = and_parts (is_below sig t u) (all_below sig ts us) b in
      and_from (is_below sig s u) (all_below sig ss us) (below_through s t u first.0 second.0) (all_below_through ss ts us first.1 second.1)

  pub contained : (terms : List Term) (i : ℕ) (t : Term) → slice_get terms i ≡ Some t → Contains terms t
  contained [] i t e = absurd (none-some t e)
  contained (x ∷ terms) zero t e = (0, omega arith, same_Some x t e)
  contained (x ∷ terms) (suc i) t e = Contains-append_right (x ∷ []) terms t (contained terms i t e)

  -- values for variables of these sorts
  module _ (sorts : List ℕ) (values : List Term) (below : all_below sig (map least_sort values) sorts ≡ true) (good : (t : Term) → Contains values t → IsGroundTerm sig t) where
    -- a term with the values in place of its variables
    record Stands (t : Term) : Type 0 where
      term : IsGroundTerm sig (under values t)
      below_ : is_below sig (least_sort (under values t)) (least_sort t) ≡ true

    at_variable : (v : Variable) → slice_get sorts v.num ≡ Some v.sort → Stands (Var v)
    at_variable v own =
        let x = below_at values sorts below v.num v.sort own in
        let is : under values (Var v) ≡ x.term = ap (λ o. unwrap_or o (Var v)) x.there in
        record {
          term = subst (IsGroundTerm sig) (sym is) (good x.term (contained values v.num x.term x.there));
          below_ = subst (λ u. is_below sig (least_sort u) v.sort ≡ true) (sym is) x.below;
        }

    members : (ts : List Term) → Each (λ t. IsSorted t → IsOwn sorts t → Stands t) ts → Each IsSorted ts → ((v : Variable) → Contains (flat_map variables ts) v → slice_get sorts v.num ≡ Some v.sort) → Each Stands ts
    members [] each sorted own = tt
    members (t ∷ ts) each sorted own = (
      each.0 sorted.0 (λ v h. own v (Contains-append_left (variables t) (flat_map variables ts) v h)),
      members ts each.1 sorted.1 (λ v h. own v (Contains-append_right (variables t) (flat_map variables ts) v h)),
    )

    all_ground : (ts : List Term) → Each Stands ts → Each IsGround (map (under values) ts)
    all_ground [] each = tt
    all_ground (t ∷ ts) each = (each.0.term.ground, all_ground ts each.1)

    all_sorted : (ts : List Term) → Each Stands ts → Each IsSorted (map (under values) ts)
    all_sorted [] each = tt
    all_sorted (t ∷ ts) each = (each.0.term.sorted, all_sorted ts each.1)

    sorts_below : (ts : List Term) → Each Stands ts → all_below sig (map least_sort (map (under values) ts)) (map least_sort ts) ≡ true
    sorts_below [] each = refl
    sorts_below (t ∷ ts) each = and_from (is_below sig (least_sort (under values t)) (least_sort t)) (all_below sig (map least_sort (map (under values) ts)) (map least_sort ts)) each.0.below_ (sorts_below ts each.1)

    stands : (t : Term) → IsSorted t → IsOwn sorts t → Stands t
    stands =
        by_terms (λ t. IsSorted t → IsOwn sorts t → Stands t) (λ v s own. at_variable v (own v (0, omega arith, refl)))
        (λ n s own. record { term = record { sorted = refl; ground = refl }; below_ = below_itself 1 })
        (λ op ts each s own.
        let parts = app_sorted op ts s in
        let whole : variables (App op ts) ≡ flat_map variables ts = variables_at (App op ts) op ts refl in
        let all = members ts each parts.1 (λ v h. own v (subst (λ (vs : List Variable). Contains vs v) (sym whole) h)) in
        let is = under_at values (App op ts) op ts refl in
        let f : Fits op (map (under values) ts) = record {
          decl = parts.0.decl;
          there = parts.0.there;
          same = parts.0.same;
          below = all_below_through (map least_sort (map (under values) ts)) (map least_sort ts) parts.0.decl.args (sorts_below ts all) parts.0.below;
        } in
        record {
          term = subst (IsGroundTerm sig) (sym is) (record { sorted = sorted_app op (map (under values) ts) f (all_sorted ts all); ground = ground_app op (map (under values) ts) (all_ground ts all) });
          below_ = subst (λ u. is_below sig (least_sort u) op.result ≡ true) (sym is) (below_itself op.result);
        })

    -- is a ground term, of a sort at or below the term's
    pub under_ground : (t : Term) → IsTermOver sig sorts t → IsGroundTerm sig (under values t)
    under_ground t over = (stands t over.sorted over.own).term
