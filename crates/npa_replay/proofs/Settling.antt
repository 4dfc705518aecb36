-- What stays normal where all equations cancel: parts of normal terms, instances by normal values of
-- the terms of an accepted aim, and each normal form.
use Rattle.std.specs.Prelude.{unwrap_or}
use Rattle.std.specs.List.{flat_map}
use Rattle.std.proofs.Common.{◌≡◌, ℕ, true, List, [], ◌∷◌, Some, map, slice_get, Contains, inl, refl, ap, sym, ◌∙◌, subst, arith}
use Rattle.std.proofs.lemmas.List.Elements.{Contains-append_left, Contains-append_right}
use Rattle.npa_sorts.specs.Subsorts.{IsAtOrBelow}
use Rattle.npa_sorts.proofs.Climbs.{decides}
use Rattle.npa_sorts.proofs.Steps.{at_or_below_trans}
use Rattle.npa_term.specs.declared.term.Op.{Op}
use Rattle.npa_term.specs.declared.term.Var.{Var as Variable}
use Rattle.npa_term.specs.declared.term.Term.{Term, Var, App}
use Rattle.npa_term.specs.Bound.{applied}
use Rattle.npa_term.specs.Canonical.{canonical}
use Rattle.npa_term.specs.Parts.{IsPart, whole, inside, least_sort}
use Rattle.npa_term.specs.Same.{Same}
use Rattle.npa_term.specs.Variables.{variables}
use Rattle.npa_term.proofs.GroundLaws.{ground_canonical}
use Rattle.npa_term.proofs.Induction.{Each, by_terms}
use Rattle.npa_term.proofs.Rows.{variables_at}
use Rattle.npa_term.proofs.SameLaws.{same_sym}
use Rattle.npa_sig.specs.Signature.{Signature}
use Rattle.npa_sig.specs.Sorting.{is_below, all_below, well_sorted, IsGroundTerm}
use Rattle.npa_rewrite.specs.declared.theory.Theory.{Theory}
use Rattle.npa_rewrite.specs.Innermost.{normalized}
use Rattle.npa_rewrite.specs.Rewriting.{AllCancel, IsNormal, Steps, none, more}
use Rattle.npa_sig.specs.Operators.{PairsCommute}
use Rattle.npa_rewrite.specs.Stepping.{HasNoMatch}
use Rattle.npa_rewrite.proofs.Kept.{keeps_sort, steps_ground}
use Rattle.npa_rewrite.proofs.Normalized.{normalized_form, own_form}
use Rattle.npa_rewrite.proofs.Parts.{normal_part}
use Rattle.npa_rewrite.proofs.Root.{leaf_name}
use Rattle.npa_rewrite.proofs.Sorted.{form_sorted, value_sorted}
use Rattle.npa_rewrite.proofs.Under.{normal_app}
use Rattle.npa_sig.specs.Values.{under}
use Rattle.npa_rewrite.specs.Accepted.{IsAcceptedTerm}
use Rattle.npa_rewrite.specs.Normal.{IsNormalTerm}
use Rattle.npa_sig.specs.WellFormed.{IsOwn}
use Rattle.npa_sig.proofs.Under.{under_at}
use Rattle.npa_sig.proofs.SortedTerms.{IsSorted, arguments_sorted, below_at, below_through, contained, sort_canonical, under_ground}
use Rattle.npa_replay.specs.Choices.{HasGroundTerm}
use Rattle.npa_sig.proofs.Bindings.{as_bound, bindings, bound_below}
use Rattle.npa_replay.proofs.Assigning.{HasNormalTerm}
use Rattle.npa_replay.proofs.Meeting.{Keeps}
use Rattle.npa_replay.proofs.Members.{contains_head, contains_tail}

-- what keeps terms of a signature normal
pub record Stable (th : Theory) (sig : Signature) : Type 0 where
  pub parts : (t u : Term) → IsPart t u → normalized th u ≡ canonical u → normalized th t ≡ canonical t
  pub values : (sorts : List ℕ) (values : List Term) → all_below sig (map least_sort values) sorts ≡ true → ((t : Term) → Contains values t → IsNormalTerm (normalized th) sig t) →
      Keeps (normalized th) (IsAcceptedTerm th) sig sorts values
  pub forms : (t : Term) → IsGroundTerm sig t → IsNormalTerm (normalized th) sig (normalized th t) × (canonical (normalized th t) ≡ normalized th t)
  pub sorts : (s : ℕ) → HasGroundTerm sig s → HasNormalTerm (normalized th) sig s

module _ (th : Theory) (cancel : AllCancel th) (pairs : PairsCommute th.sig) where
  part_keeps : (t u : Term) → IsPart t u → normalized th u ≡ canonical u → normalized th t ≡ canonical t
  part_keeps t u p e = (own_form th t cancel).0 (normal_part th p ((own_form th u cancel).1 e))

  -- a normal form is normal, and ground and well sorted where the term is
  form_good : (t : Term) → IsGroundTerm th.sig t → IsNormalTerm (normalized th) th.sig (normalized th t) × (canonical (normalized th t) ≡ normalized th t)
  form_good t g =
      let form = normalized_form th cancel t in (
        record {
          term = record { sorted = form_sorted th t (normalized th t) cancel pairs form.reached g.sorted; ground = steps_ground th cancel form.reached (ground_canonical t g.ground) };
          normal = (own_form th (normalized th t) cancel).0 form.normal;
        },
        form.settled,
      )

  -- and of a sort at or below the term's
  steps_below : {t u : Term} → Steps th t u → IsAtOrBelow th.sig.sorts (least_sort u) (least_sort t)
  steps_below none = inl refl
  steps_below (more u v p q) = at_or_below_trans (keeps_sort th u v cancel q) (steps_below p)

  form_below : (t : Term) → is_below th.sig (least_sort (normalized th t)) (least_sort t) ≡ true
  form_below t =
      let reached = steps_below (normalized_form th cancel t).reached in
      (decides th.sig.sorts (least_sort (normalized th t)) (least_sort t)).1
      (subst (λ n. IsAtOrBelow th.sig.sorts (least_sort (normalized th t)) n) (sort_canonical th.sig t) reached)

  sort_term : (s : ℕ) → HasGroundTerm th.sig s → HasNormalTerm (normalized th) th.sig s
  sort_term s h = record {
    term = normalized th h.term;
    good = (form_good h.term h.good).0;
    below = below_through th.sig (least_sort (normalized th h.term)) (least_sort h.term) s (form_below h.term) h.below;
  }

  module _ (sorts : List ℕ) (values : List Term) (below : all_below th.sig (map least_sort values) sorts ≡ true) (normal : (t : Term) → Contains values t → IsNormalTerm (normalized th) th.sig t) where
    abbrev Stays : Term → Type 0
    Stays t = IsSorted th.sig t → IsOwn sorts t → IsAcceptedTerm th t → IsNormal th (under values t)

    -- the value of a variable
    record Value (v : Variable) : Type 0 where
      term : Term
      is : under values (Var v) ≡ term
      good : IsNormalTerm (normalized th) th.sig term

    value : (v : Variable) → slice_get sorts v.num ≡ Some v.sort → Value v
    value v own =
        let x = below_at th.sig values sorts below v.num v.sort own in
        record { term = x.term; is = ap (λ o. unwrap_or o (Var v)) x.there; good = normal x.term (contained th.sig values v.num x.term x.there) }

    at_variable : (v : Variable) → Stays (Var v)
    at_variable v s own accepted =
        let x = value v (own v (0, omega arith, refl)) in
        subst (IsNormal th) (sym x.is) ((own_form th x.term cancel).1 x.good.normal)

    -- no left side matches the instance of a term that isn't a variable
    unmatched : (op : Op) (ts : List Term) → IsSorted th.sig (App op ts) → IsOwn sorts (App op ts) → IsAcceptedTerm th (App op ts) → HasNoMatch th (under values (App op ts))
    unmatched op ts s own accepted = λ e by_ c respects same.
        let t = App op ts in
        let ground = under_ground th.sig sorts values below (λ u h. (normal u h).term) t (record { sorted = s; own = own }) in
        accepted t whole (λ v is. cc) e c (record {
          first = bindings 0 sorts values;
          second = by_;
          first_sorts = record {
            sorted = λ v h.
                let x = value v (own v h) in
                let b = bound_below th.sig sorts values below v (own v h) in
                subst (λ u. well_sorted th.sig u ≡ true) (sym (b.0 ∙ x.is)) x.good.term.sorted;
            below = λ v h. (bound_below th.sig sorts values below v (own v h)).1;
          };
          second_sorts = record {
            sorted = λ v h. value_sorted th.sig (under values t) e.left by_ v pairs (same_sym same) ground.sorted h;
            below = respects;
          };
          equal = subst (λ u. Same u (applied by_ e.left)) (sym (as_bound th.sig sorts values below t own)) (same_sym same);
        })

    stays : (t : Term) → Stays t
    stays =
        by_terms Stays at_variable (λ n s own accepted. leaf_name th n cancel)
        (λ op ts each s own accepted.
        let all : variables (App op ts) ≡ flat_map variables ts = variables_at (App op ts) op ts refl in
        let is = under_at values (App op ts) op ts refl in
        let members = arguments op ts ts each (λ t h. h) (arguments_sorted th.sig op ts s) (λ v h. own v (subst (λ (vs : List Variable). Contains vs v) (sym all) h)) accepted in
        subst (IsNormal th) (sym is) (normal_app th op (map (under values) ts) members (subst (HasNoMatch th) is (unmatched op ts s own accepted))))
      where
        arguments : (op : Op) (us ts : List Term) → Each Stays ts → ((t : Term) → Contains ts t → Contains us t) → Each (IsSorted th.sig) ts →
            ((v : Variable) → Contains (flat_map variables ts) v → slice_get sorts v.num ≡ Some v.sort) → IsAcceptedTerm th (App op us) → Each (IsNormal th) (map (under values) ts)
        arguments op us [] each among sorted own accepted = tt
        arguments op us (t ∷ ts) each among sorted own accepted = (
          each.0 sorted.0 (λ v h. own v (Contains-append_left (variables t) (flat_map variables ts) v h))
              (λ u p. accepted u (inside op us t (among t (contains_head t ts)) p)),
          arguments op us ts each.1 (λ u h. among u (contains_tail t ts u h)) sorted.1 (λ v h. own v (Contains-append_right (variables t) (flat_map variables ts) v h)) accepted,
        )

    value_keeps : Keeps (normalized th) (IsAcceptedTerm th) th.sig sorts values
    value_keeps t over accepted = (own_form th (under values t) cancel).0 (stays t over.sorted over.own accepted)

  pub stable : Stable th th.sig
  stable = record { parts = part_keeps; values = value_keeps; forms = form_good; sorts = sort_term }
