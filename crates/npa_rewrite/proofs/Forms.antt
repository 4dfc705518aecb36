-- Normal forms are made from those of the arguments.
use Rattle.std.proofs.Common.{◌≡◌, List, [], ◌∷◌, ◌++◌, append_assoc, map, refl, sym, ◌∙◌, ap, subst}
use Rattle.std.specs.List.{AllZip}
use Rattle.npa_term.specs.declared.term.Op.{Op}
use Rattle.npa_term.specs.declared.term.Term.{Term, App}
use Rattle.npa_term.specs.Canonical.{canonical, ordered}
use Rattle.npa_term.proofs.CanonicalLaws.{by_order, canonical_same, canonical-canonical}
use Rattle.npa_term.proofs.Induction.{Each}
use Rattle.npa_term.proofs.Rows.{canonical_app}
use Rattle.npa_term.proofs.SameCases.{app_injective}
use Rattle.npa_rewrite.specs.declared.theory.Theory.{Theory}
use Rattle.npa_rewrite.specs.Rewriting.{IsNormal, AllCancel, Steps, none, more}
use Rattle.npa_rewrite.specs.Stepping.{HasNoMatch, IsRootStep}
use Rattle.npa_rewrite.proofs.Parts.{HasArguments, normal_smaller, root_part, root_rewrites}
use Rattle.npa_rewrite.proofs.Under.{steps_in, steps_after, normal_app, normal_same}

-- a term with its normal form
pub record IsForm (th : Theory) (t u : Term) : Type 0 where
  pub settled : canonical u ≡ u
  pub normal : IsNormal th u
  pub reached : Steps th (canonical t) u

-- the arguments of an operator with their normal forms
abbrev pub AreForms : Theory → List Term → List Term → Type 0
AreForms th ts us = AllZip (IsForm th) ts us

twice : (ts : List Term) → map canonical (map canonical ts) ≡ map canonical ts
twice [] = refl
twice (t ∷ ts) = ap (λ u. u ∷ map canonical (map canonical ts)) (canonical-canonical t) ∙ ap (λ us. canonical t ∷ us) (twice ts)

-- the canonical form of an application of canonical arguments
canonical_again : (op : Op) (ts : List Term) → canonical (App op (map canonical ts)) ≡ canonical (App op ts)
canonical_again op ts =
    canonical_app op (map canonical ts) ∙ ap (λ us. App op (ordered op us)) (twice ts) ∙ sym (canonical_app op ts)

forms_canonical : (th : Theory) (ts us : List Term) → AreForms th ts us → map canonical us ≡ us
forms_canonical th [] [] forms = refl
forms_canonical th [] (u ∷ us) forms = absurd forms
forms_canonical th (t ∷ ts) [] forms = absurd forms
forms_canonical th (t ∷ ts) (u ∷ us) forms =
    ap (λ v. v ∷ map canonical us) forms.0.settled ∙ ap (λ vs. u ∷ vs) (forms_canonical th ts us forms.1)

forms_normal : (th : Theory) (ts us : List Term) → AreForms th ts us → Each (IsNormal th) us
forms_normal th [] [] forms = tt
forms_normal th [] (u ∷ us) forms = absurd forms
forms_normal th (t ∷ ts) [] forms = absurd forms
forms_normal th (t ∷ ts) (u ∷ us) forms = (forms.0.normal, forms_normal th ts us forms.1)

pub ordered_each : (P : Term → Type 0) (op : Op) (us : List Term) → Each P us → Each P (ordered op us)
ordered_each P op us each =
    by_order (Each P) op us each
    (λ t u e swaps above. let two : Each P (t ∷ u ∷ []) = subst (Each P) e each in (two.1.0, (two.0, tt)))

steps_all : (th : Theory) (op : Op) (before ts us : List Term) → AreForms th ts us →
    Steps th (canonical (App op (before ++ map canonical ts))) (canonical (App op (before ++ us)))
steps_all th op before [] [] forms = none
steps_all th op before [] (u ∷ us) forms = absurd forms
steps_all th op before (t ∷ ts) [] forms = absurd forms
steps_all th op before (t ∷ ts) (u ∷ us) forms =
    let rest = steps_all th op (before ++ u ∷ []) ts us forms.1 in
    let left = append_assoc before (u ∷ []) (map canonical ts) in
    let right = append_assoc before (u ∷ []) us in
    let moved : Steps th (canonical (App op (before ++ u ∷ map canonical ts))) (canonical (App op (before ++ u ∷ us))) =
    subst (λ vs. Steps th (canonical (App op (before ++ u ∷ map canonical ts))) (canonical (App op vs))) right
    (subst (λ vs. Steps th (canonical (App op vs)) (canonical (App op ((before ++ u ∷ []) ++ us)))) left rest) in
    steps_after th (steps_in th op before (map canonical ts) forms.0.reached) moved

-- an application with the normal forms of its arguments, sorted
module _ (th : Theory) (t : Term) (op : Op) (ts us : List Term) (is : t ≡ App op ts) (forms : AreForms th ts us) where
  abbrev pub with_forms : Term
  with_forms = App op (ordered op us)

  as_canonical : canonical (App op us) ≡ with_forms
  as_canonical = canonical_app op us ∙ ap (λ vs. App op (ordered op vs)) (forms_canonical th ts us forms)

  pub with_canonical : canonical with_forms ≡ with_forms
  with_canonical = ap canonical (sym as_canonical) ∙ canonical-canonical (App op us) ∙ as_canonical

  pub with_reached : Steps th (canonical t) with_forms
  with_reached =
      subst (λ v. Steps th v with_forms) (canonical_again op ts ∙ sym (ap canonical is))
      (subst (Steps th (canonical (App op (map canonical ts)))) as_canonical (steps_all th op [] ts us forms))

  with_arguments : HasArguments (IsNormal th) with_forms
  with_arguments f vs e =
      subst (Each (IsNormal th)) (app_injective op f (ordered op us) vs e).1 (ordered_each (IsNormal th) op us (forms_normal th ts us forms))

  -- where no equation matches it, it is the normal form
  pub form_unmatched : HasNoMatch th with_forms → IsForm th t with_forms
  form_unmatched unmatched = record {
    settled = with_canonical;
    normal = normal_app th op (ordered op us) (ordered_each (IsNormal th) op us (forms_normal th ts us forms)) unmatched;
    reached = with_reached;
  }

  -- and where one does, a step leaves the normal form
  pub form_stepped : (v : Term) → AllCancel th → IsRootStep th with_forms v → IsForm th t v
  form_stepped v cancel step =
      let part = root_part th with_forms v cancel step in
      let normal : IsNormal th part.0 = normal_smaller th part.2 part.3 with_arguments in
      record {
        settled = ap canonical part.1 ∙ canonical-canonical part.0 ∙ sym part.1;
        normal = subst (IsNormal th) (sym part.1) (normal_same th part.0 (canonical part.0) (canonical_same part.0) normal);
        reached = more with_forms v with_reached (root_rewrites th with_forms v step);
      }
