-- Parts that are matched one after another are met by an assignment, and the other way round.
use Rattle.std.specs.Prelude.{unwrap_or, IsSome}
use Rattle.std.specs.List.{flat_map}
use Rattle.std.proofs.Common.{◌≡◌, ℕ, zero, suc, ◌+◌, ⊎_elim, true, false, ◌&&◌, List, [], ◌∷◌, Option, None, Some, map, slice_get, Contains, cond, nat_eq, refl, ap, sym, ◌∙◌, subst, arith}
use Rattle.std.proofs.lemmas.Bool.{and_from, eq-eqb, ne_eqb}
use Rattle.std.proofs.lemmas.List.Elements.{Contains-append_left, Contains-append_right}
use Rattle.std.proofs.lemmas.Option.{same_Some, none-some}
use Rattle.npa_sorts.specs.Subsorts.{IsAtOrBelow}
use Rattle.npa_sorts.proofs.Climbs.{decides}
use Rattle.npa_term.specs.declared.term.Var.{Var as Variable}
use Rattle.npa_term.specs.declared.term.Term.{Term, Var, App}
use Rattle.npa_term.specs.Agreeing.{ValuesAgree}
use Rattle.npa_term.specs.Bound.{value_of, applied, same_var}
use Rattle.npa_term.specs.Canonical.{canonical}
use Rattle.npa_term.specs.Parts.{least_sort, image, IsPart, whole, inside}
use Rattle.npa_term.specs.Same.{Same}
use Rattle.npa_term.specs.Variables.{variables, IsGround}
use Rattle.npa_term.proofs.AgreeingLaws.{same_canonical, canonical_equal}
use Rattle.npa_term.proofs.AppliedLaws.{agrees_applied}
use Rattle.npa_term.proofs.GroundLaws.{ground_arguments}
use Rattle.npa_term.proofs.Induction.{Each, by_terms}
use Rattle.npa_term.proofs.Rows.{applied_app, variables_at}
use Rattle.npa_sig.specs.Signature.{Signature}
use Rattle.npa_sig.specs.Sorting.{is_below, all_below}
use Rattle.npa_match.specs.Matching.{HasMatch, IsMatcher}
use Rattle.npa_sig.specs.Values.{under}
use Rattle.npa_rewrite.specs.Normal.{IsNormalTerm}
use Rattle.npa_sig.specs.WellFormed.{IsOwn, IsTermOver}
use Rattle.npa_sig.proofs.Bindings.{variable, applied_under, bindings, as_bound, bound_below}
use Rattle.npa_sig.proofs.SortedTerms.{IsSorted, declaration, sorted_agrees, arguments_sorted}
use Rattle.npa_replay.proofs.Choosing.{occurs_first, occurs_in}
use Rattle.npa_replay.proofs.Members.{contains_cases}

each_member : (P : Term → Type 0) (ts : List Term) (t : Term) → Each P ts → Contains ts t → P t
each_member P [] t each h = absurd (omega (arith, h.1))
each_member P (u ∷ ts) t each h = ⊎_elim (λ (same : u ≡ t). subst P same each.0) (λ later. each_member P ts t each.1 later) (contains_cases u ts t h)

-- a part of a well-sorted ground term is one
part_sorted : (sig : Signature) {t u : Term} → IsPart t u → IsSorted sig u → IsSorted sig t
part_sorted sig whole s = s
part_sorted sig {t = t} (inside op us u h p) s = part_sorted sig p (each_member (IsSorted sig) us u (arguments_sorted sig op us s) h)

part_ground : {t u : Term} → IsPart t u → IsGround u → IsGround t
part_ground whole g = g
part_ground {t = t} (inside op us u h p) g = part_ground p (each_member IsGround us u (ground_arguments op us g) h)

-- a part of a normal ground term is one
part_normal : (nf : Term → Term) (sig : Signature) → ((t u : Term) → IsPart t u → nf u ≡ canonical u → nf t ≡ canonical t) → (t u : Term) → IsPart t u → IsNormalTerm nf sig u → IsNormalTerm nf sig t
part_normal nf sig keeps t u p n = record { term = record { sorted = part_sorted sig p n.term.sorted; ground = part_ground p n.term.ground }; normal = keeps t u p n.normal }

-- a normal ground term of a sort at or below this one
pub record HasNormalTerm (nf : Term → Term) (sig : Signature) (sort : ℕ) : Type 0 where
  pub term : Term
  pub good : IsNormalTerm nf sig term
  pub below : is_below sig (least_sort term) sort ≡ true

module _ (nf : Term → Term) (sig : Signature) (sorts : List ℕ) where
  -- a pair of a term over the aim's variables and a normal ground term
  pub record IsGoodPair (p : Term × Term) : Type 0 where
    pub first : IsTermOver sig sorts p.0
    pub second : IsNormalTerm nf sig p.1

  abbrev pub AreGood : List (Term × Term) → Type 0
  AreGood pairs = (p : Term × Term) → Contains pairs p → IsGoodPair p

  -- the values of an assignment, and that they make the members of each pair equal
  pub record Assigned (pairs : List (Term × Term)) : Type 0 where
    pub values : List Term
    pub sorted : all_below sig (map least_sort values) sorts ≡ true
    pub good : (t : Term) → Contains values t → IsNormalTerm nf sig t
    pub equal : (p : Term × Term) → Contains pairs p → canonical (under values p.0) ≡ canonical p.1

  module _ (keeps : (t u : Term) → IsPart t u → nf u ≡ canonical u → nf t ≡ canonical t) (pairs : List (Term × Term)) (good : AreGood pairs) (s : List (Variable × Term)) (m : IsMatcher sig.sorts pairs s) where
    record Good (t : Term) (sort : ℕ) : Type 0 where
      term : IsNormalTerm nf sig t
      below : is_below sig (least_sort t) sort ≡ true

    bound_good : (v : Variable) (t : Term) → value_of s v ≡ Some t → Good t v.sort
    bound_good v t e =
        let x = m.parts v t e in
        let p = good (x.0, x.1) x.2 in
        let is : image s v ≡ t = ap (λ o. unwrap_or o (Var v)) e in
        record {
          term = part_normal nf sig keeps t x.1 x.3 p.second;
          below = subst (λ n. is_below sig n v.sort ≡ true) (ap least_sort is) ((decides sig.sorts (least_sort (image s v)) v.sort).1 (m.matches.sorts v (m.only v t e)));
        }

    value_good : (v : Variable) (d : HasNormalTerm nf sig v.sort) → Good (unwrap_or (value_of s v) d.term) v.sort
    value_good v d = by (value_of s v) refl
      where
        by : (o : Option Term) → value_of s v ≡ o → Good (unwrap_or o d.term) v.sort
        by None e = record { term = d.good; below = d.below }
        by (Some t) e = bound_good v t e

    abbrev values_from : (k : ℕ) (ss : List ℕ) → ((i n : ℕ) → slice_get ss i ≡ Some n → HasNormalTerm nf sig n) → List Term
    values_from k [] has = []
    values_from k (n ∷ ss) has = unwrap_or (value_of s (variable k n)) (has 0 n refl).term ∷ values_from (k + 1) ss (λ i. has (suc i))

    values_below : (k : ℕ) (ss : List ℕ) (has : (i n : ℕ) → slice_get ss i ≡ Some n → HasNormalTerm nf sig n) → all_below sig (map least_sort (values_from k ss has)) ss ≡ true
    values_below k [] has = refl
    values_below k (n ∷ ss) has =
        and_from (is_below sig (least_sort (unwrap_or (value_of s (variable k n)) (has 0 n refl).term)) n) (all_below sig (map least_sort (values_from (k + 1) ss (λ i. has (suc i)))) ss)
        (value_good (variable k n) (has 0 n refl)).below (values_below (k + 1) ss (λ i. has (suc i)))

    values_ground : (k : ℕ) (ss : List ℕ) (has : (i n : ℕ) → slice_get ss i ≡ Some n → HasNormalTerm nf sig n) → Each (IsNormalTerm nf sig) (values_from k ss has)
    values_ground k [] has = tt
    values_ground k (n ∷ ss) has = ((value_good (variable k n) (has 0 n refl)).term, values_ground (k + 1) ss (λ i. has (suc i)))

    values_at : (k : ℕ) (ss : List ℕ) (has : (i n : ℕ) → slice_get ss i ≡ Some n → HasNormalTerm nf sig n) (i n : ℕ) (t : Term) →
        slice_get ss i ≡ Some n → value_of s (variable (k + i) n) ≡ Some t → slice_get (values_from k ss has) i ≡ Some t
    values_at k [] has i n t at e = absurd (none-some n at)
    values_at k (r ∷ ss) has zero n t at e =
        let place : k ≡ k + 0 = omega arith in
        let here : value_of s (variable k r) ≡ Some t = ap (λ a. value_of s (variable a r)) place ∙ ap (λ b. value_of s (variable (k + 0) b)) (same_Some r n at) ∙ e in
        ap (λ o. Some (unwrap_or o (has 0 r refl).term)) here
    values_at k (r ∷ ss) has (suc i) n t at e =
        let place : (k + 1) + i ≡ k + suc i = omega arith in
        values_at (k + 1) ss (λ j. has (suc j)) i n t at (ap (λ a. value_of s (variable a n)) place ∙ e)

    is_bound : (o : Option Term) → IsSome o → (t : Term) × (o ≡ Some t)
    is_bound None e = cc
    is_bound (Some t) e = (t, refl)

    agree : ValuesAgree (declaration sig) s
    agree v t e = sorted_agrees sig t (bound_good v t e).term.term.sorted

    -- a matcher, and a ground term for each sort, give an assignment
    pub assigned : ((i n : ℕ) → slice_get sorts i ≡ Some n → HasNormalTerm nf sig n) → Assigned pairs
    assigned has =
        let values = values_from 0 sorts has in
        record {
          values = values;
          sorted = values_below 0 sorts has;
          good = λ t h. each_member (IsNormalTerm nf sig) values t (values_ground 0 sorts has) h;
          equal = λ p h.
              let g = good p h in
              let same : applied s p.0 ≡ under values p.0 = applied_under s values p.0 (λ v o.
              let b = is_bound (value_of s v) (m.binds v (occurs_first pairs p v h o)) in
              let place : v.num ≡ 0 + v.num = omega arith in
              let there : slice_get values v.num ≡ Some b.0 = values_at 0 sorts has v.num v.sort b.0 (g.first.own v o) (ap (λ a. value_of s (variable a v.sort)) (sym place) ∙ b.1) in
              ap (λ q. unwrap_or q (Var v)) (b.1 ∙ sym there)) in
              ap canonical (sym same)
              ∙ same_canonical (declaration sig) (applied s p.0) p.1 (agrees_applied (declaration sig) s agree p.0 (sorted_agrees sig p.0 g.first.sorted)) (sorted_agrees sig p.1 g.second.term.sorted) (m.matches.equal p.0 p.1 h);
        }

module _ (sig : Signature) (sorts : List ℕ) (values : List Term) (below : all_below sig (map least_sort values) sorts ≡ true) where
  -- pairs that the values make equal have a match
  pub matched : (pairs : List (Term × Term)) → ((p : Term × Term) → Contains pairs p → IsOwn sorts p.0 × (canonical (under values p.0) ≡ canonical p.1)) → HasMatch sig.sorts pairs
  matched pairs each = record {
    by_ = bindings 0 sorts values;
    matches = record {
      sorts = λ v h.
          let x = occurs_in pairs v h in
          (bound_below sig sorts values below v ((each x.pair x.there).0 v x.occurs)).1;
      equal = λ t u h.
          let e = each (t, u) h in
          subst (λ r. Same r u) (sym (as_bound sig sorts values below t e.0)) (canonical_equal (under values t) u e.1);
    };
  }
