-- Normal forms of applications, of instances and of equal terms.
use Rattle.std.proofs.Common.{◌≡◌, inl, Some, None, Option, List, [], ◌∷◌, map, refl, sym, ◌∙◌, ap, subst}
use Rattle.std.specs.Prelude.{IsTrue, unwrap_or, slice_get}
use Rattle.std.specs.Option.{option_map}
use Rattle.std.proofs.lemmas.Option.{slice_get-map}
use Rattle.npa_sorts.specs.Subsorts.{IsAtOrBelow}
use Rattle.npa_sorts.proofs.Steps.{at_or_below_trans}
use Rattle.npa_term.specs.declared.term.Op.{Op}
use Rattle.npa_term.specs.declared.term.Var.{Var as Variable}
use Rattle.npa_term.specs.declared.term.Term.{Term, Var, App}
use Rattle.npa_term.specs.Bound.{applied, value_of}
use Rattle.npa_term.specs.Canonical.{ordered}
use Rattle.npa_term.specs.Parts.{least_sort}
use Rattle.npa_term.specs.Same.{Same}
use Rattle.npa_term.specs.Variables.{IsGround}
use Rattle.npa_term.proofs.CompositionLaws.{value_of-map}
use Rattle.npa_term.proofs.GroundLaws.{ground_canonical}
use Rattle.npa_term.proofs.Induction.{Each, by_terms}
use Rattle.npa_term.proofs.Rows.{applied_app}
use Rattle.npa_sig.specs.Operators.{PairsCommute}
use Rattle.npa_sig.specs.Sorting.{well_sorted}
use Rattle.npa_sig.specs.Values.{under}
use Rattle.npa_sig.proofs.SortedTerms.{sort_canonical}
use Rattle.npa_sig.proofs.Under.{under_at}
use Rattle.npa_rewrite.specs.declared.theory.Theory.{Theory}
use Rattle.npa_rewrite.specs.Innermost.{normal_values, normalized, rooted}
use Rattle.npa_rewrite.specs.Rewriting.{AllCancel, IsConvergent, IsNormalFormOf, Steps, none, more}
use Rattle.npa_rewrite.proofs.Kept.{keeps_sort, one_form, steps_ground}
use Rattle.npa_rewrite.proofs.Normalized.{normalized_app, normalized_form, normalized_is, own_form}
use Rattle.npa_rewrite.proofs.Sorted.{form_sorted}
use Rattle.npa_rewrite.proofs.Sorting.{sorted_canonical}

module _ (th : Theory) (cancel : AllCancel th) where
  -- a normal form is its own
  pub form_again : (t : Term) → normalized th (normalized th t) ≡ normalized th t
  form_again t =
      let form = normalized_form th cancel t in
      (own_form th (normalized th t) cancel).0 form.normal ∙ form.settled

  all_again : (ts : List Term) → map (normalized th) (map (normalized th) ts) ≡ map (normalized th) ts
  all_again [] = refl
  all_again (t ∷ ts) = ap (λ u. u ∷ map (normalized th) (map (normalized th) ts)) (form_again t) ∙ ap (λ us. normalized th t ∷ us) (all_again ts)

  -- the normal forms of the arguments may be taken first
  pub form_app : (op : Op) (ts : List Term) → normalized th (App op (map (normalized th) ts)) ≡ normalized th (App op ts)
  form_app op ts =
      normalized_app th op (map (normalized th) ts) ∙ ap (λ us. rooted th (App op (ordered op us))) (all_again ts) ∙ sym (normalized_app th op ts)

  app_alike : (op : Op) (ts us : List Term) → map (normalized th) ts ≡ map (normalized th) us → normalized th (App op ts) ≡ normalized th (App op us)
  app_alike op ts us e = normalized_app th op ts ∙ ap (λ vs. rooted th (App op (ordered op vs))) e ∙ sym (normalized_app th op us)

  form_alike : (o : Option Term) (t : Term) → normalized th (unwrap_or (option_map (normalized th) o) t) ≡ normalized th (unwrap_or o t)
  form_alike None t = refl
  form_alike (Some u) t = form_again u

  alike_all : (f g : Term → Term) (ts : List Term) → Each (λ t. normalized th (f t) ≡ normalized th (g t)) ts → map (normalized th) (map f ts) ≡ map (normalized th) (map g ts)
  alike_all f g [] each = refl
  alike_all f g (t ∷ ts) each = ap (λ u. u ∷ map (normalized th) (map f ts)) each.0 ∙ ap (λ us. normalized th (g t) ∷ us) (alike_all f g ts each.1)

  -- and so may those of the values of a substitution
  pub form_values : (s : List (Variable × Term)) (t : Term) → normalized th (applied (normal_values th s) t) ≡ normalized th (applied s t)
  form_values s =
      by_terms (λ t. normalized th (applied (normal_values th s) t) ≡ normalized th (applied s t))
      (λ v. ap (λ o. normalized th (unwrap_or o (Var v))) (value_of-map (normalized th) s v) ∙ form_alike (value_of s v) (Var v))
      (λ n. refl)
      (λ op ts each.
      ap (normalized th) (applied_app (normal_values th s) op ts)
      ∙ app_alike op (map (applied (normal_values th s)) ts) (map (applied s) ts) (alike_all (applied (normal_values th s)) (applied s) ts each)
      ∙ ap (normalized th) (sym (applied_app s op ts)))

  -- and of parameters
  pub form_under : (values : List Term) (t : Term) → normalized th (under (map (normalized th) values) t) ≡ normalized th (under values t)
  form_under values =
      let forms = map (normalized th) values in
      by_terms (λ t. normalized th (under forms t) ≡ normalized th (under values t))
      (λ v. ap (λ o. normalized th (unwrap_or o (Var v))) (slice_get-map (normalized th) values v.num) ∙ form_alike (slice_get values v.num) (Var v))
      (λ n. refl)
      (λ op ts each.
      ap (normalized th) (under_at forms (App op ts) op ts refl)
      ∙ app_alike op (map (under forms) ts) (map (under values) ts) (alike_all (under forms) (under values) ts each)
      ∙ ap (normalized th) (sym (under_at values (App op ts) op ts refl)))

  -- in a convergent theory equal terms have one normal form
  pub form_same : PairsCommute th.sig → IsConvergent th → (t u : Term) → Same t u → IsTrue (well_sorted th.sig t) → normalized th t ≡ normalized th u
  form_same pairs convergent t u same sorted =
      let form = normalized_is th cancel u in
      let one : IsNormalFormOf th t (normalized th u) = record {
        reached = subst (λ x. Steps th x (normalized th u)) (sym (sorted_canonical th.sig pairs t u same sorted)) form.reached;
        normal = form.normal;
      } in
      one_form th t (normalized th t) (normalized th u) convergent sorted (normalized_is th cancel t) one

  steps_below : {t u : Term} → Steps th t u → IsAtOrBelow th.sig.sorts (least_sort u) (least_sort t)
  steps_below none = inl refl
  steps_below (more u v p r) = at_or_below_trans (keeps_sort th u v cancel r) (steps_below p)

  -- a normal form is of a sort at or below the term's
  pub form_below : (t : Term) → IsAtOrBelow th.sig.sorts (least_sort (normalized th t)) (least_sort t)
  form_below t =
      subst (IsAtOrBelow th.sig.sorts (least_sort (normalized th t))) (sort_canonical th.sig t) (steps_below (normalized_form th cancel t).reached)

  -- well sorted where the term is
  pub form_well_sorted : PairsCommute th.sig → (t : Term) → IsTrue (well_sorted th.sig t) → IsTrue (well_sorted th.sig (normalized th t))
  form_well_sorted pairs t sorted = form_sorted th t (normalized th t) cancel pairs (normalized_form th cancel t).reached sorted

  -- and ground where the term is
  pub form_ground : (t : Term) → IsGround t → IsGround (normalized th t)
  form_ground t ground = steps_ground th cancel (normalized_form th cancel t).reached (ground_canonical t ground)
