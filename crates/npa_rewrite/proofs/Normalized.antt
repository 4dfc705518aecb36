-- Normal forms that are made from the leaves up.
use Rattle.std.proofs.Common.{◌≡◌, ℕ, List, [], ◌∷◌, ◌++◌, ◌+◌, ◌<◌, ◌≤◌, length, take, get_or, Option, Some, None, map, refl, sym, ◌∙◌, ap, subst}
use Rattle.std.specs.Prelude.{unwrap_or, ◌↔◌, IsTrue}
use Rattle.std.proofs.lemmas.List.{take_all, map-append}
use Rattle.npa_term.specs.declared.term.Op.{Op}
use Rattle.npa_term.specs.declared.term.Term.{Term, App, Row_of-Term, end_of-Term, more_of-Term, items-the_row-Term, items_hidden-the_row-Term-0}
use Rattle.npa_term.specs.declared.term.Term.TheBlock.{hidden-the_row-Term-0}
use Rattle.npa_term.specs.Canonical.{canonical, ordered}
use Rattle.npa_term.proofs.Induction.{Each, by_terms}
use Rattle.npa_sig.specs.Sorting.{well_sorted}
use Rattle.npa_rewrite.specs.declared.step.Outcome.{Outcome}
use Rattle.npa_rewrite.specs.declared.step.Outcome.TheVariants.{Made, Normal}
use Rattle.npa_rewrite.specs.declared.theory.Theory.{Theory}
use Rattle.npa_rewrite.specs.Innermost.{at_root, rooted, normalized, normalized_row}
use Rattle.npa_rewrite.specs.Rewriting.{IsNormal, AllCancel, none, IsNormalFormOf, IsConvergent, GivesNormalForms}
use Rattle.npa_rewrite.specs.Stepping.{IsRootOutcome, outcome_of}
use Rattle.npa_rewrite.proofs.Existence.{root_told}
use Rattle.npa_rewrite.proofs.Forms.{IsForm, AreForms, form_unmatched, form_stepped}
use Rattle.npa_rewrite.proofs.Kept.{settled, one_form, least_form}
use Rattle.npa_rewrite.proofs.Root.{leaf_var, leaf_name}
use Rattle.npa_rewrite.proofs.Under.{normal_before}
use Rattle.npa_rewrite.proofs.Walk.{taken_more}

-- the normal forms of a row are those of its list
row_is : {n : _} (th : Theory) (k : Row_of-Term n) → normalized_row th k ≡ map (normalized th) (items-the_row-Term n k)
row_is th end_of-Term = refl
row_is th (more_of-Term t rest) = ap (λ ts. normalized th t ∷ ts) (row_is th rest)

pub normalized_app : (th : Theory) (op : Op) (ts : List Term) → normalized th (App op ts) ≡ rooted th (App op (ordered op (map (normalized th) ts)))
normalized_app th op ts =
    let k = hidden-the_row-Term-0 ts in
    ap (λ us. rooted th (App op (ordered op us))) (row_is th k ∙ ap (map (normalized th)) (items_hidden-the_row-Term-0 ts))

forms_of : (th : Theory) (ts : List Term) → Each (λ t. IsForm th t (normalized th t)) ts → AreForms th ts (map (normalized th) ts)
forms_of th [] each = tt
forms_of th (t ∷ ts) each = (each.0, forms_of th ts each.1)

rooted_form : (th : Theory) (op : Op) (ts us : List Term) (forms : AreForms th ts us) → AllCancel th → (o : Option Term) →
    IsRootOutcome th (App op (ordered op us)) (outcome_of (App op (ordered op us)) o) → IsForm th (App op ts) (unwrap_or o (App op (ordered op us)))
rooted_form th op ts us forms cancel None root = form_unmatched th (App op ts) op ts us refl forms root
rooted_form th op ts us forms cancel (Some v) root = form_stepped th (App op ts) op ts us refl forms v cancel root

-- where all equations cancel, it is a normal form, canonical and reached by steps
pub normalized_form : (th : Theory) → AllCancel th → (t : Term) → IsForm th t (normalized th t)
normalized_form th cancel =
    by_terms (λ t. IsForm th t (normalized th t))
    (λ v. record { settled = refl; normal = leaf_var th v cancel; reached = none })
    (λ n. record { settled = refl; normal = leaf_name th n cancel; reached = none })
    (λ op ts each.
    let sorted = App op (ordered op (map (normalized th) ts)) in
    subst (IsForm th (App op ts)) (sym (normalized_app th op ts))
    (rooted_form th op ts (map (normalized th) ts) (forms_of th ts each) cancel (at_root th.sig.sorts th.equations sorted) (root_told th sorted)))

pub normalized_is : (th : Theory) → AllCancel th → (t : Term) → IsNormalFormOf th t (normalized th t)
normalized_is th cancel t = let form = normalized_form th cancel t in record { reached = form.reached; normal = form.normal }

-- a term is normal exactly where that is its canonical form
pub own_form : (th : Theory) (t : Term) → AllCancel th → IsNormal th t ↔ (normalized th t ≡ canonical t)
own_form th t cancel =
    let form = normalized_form th cancel t in
    (λ normal. settled th t (normalized th t) normal form.reached, λ e. normal_before th t (normalized th t) e form.normal)

-- and in a convergent theory it is the least normal form
pub gives_forms : (th : Theory) → AllCancel th → IsConvergent th → GivesNormalForms th (normalized th)
gives_forms th cancel convergent = λ t sorted. least_form th t (normalized th t) convergent sorted (normalized_is th cancel t)

pub same_form : (th : Theory) (nf : Term → Term) (t : Term) → AllCancel th → IsConvergent th → GivesNormalForms th nf → IsTrue (well_sorted th.sig t) → nf t ≡ normalized th t
same_form th nf t cancel convergent gives sorted = one_form th t (nf t) (normalized th t) convergent sorted (gives t sorted).form (normalized_is th cancel t)

-- what the code does with the arguments

outcome_rooted : (t u : Term) (o : Option Term) → outcome_of t o ≡ Made u → unwrap_or o t ≡ u
outcome_rooted t u None e = cc
outcome_rooted t u (Some v) e = cc

outcome_kept : (t u : Term) (o : Option Term) → outcome_of t o ≡ Normal u → unwrap_or o t ≡ u
outcome_kept t u None e = cc
outcome_kept t u (Some v) e = cc

module _ (th : Theory) (t : Term) (op : Op) (ts items made sorted : List Term) (i : ℕ) (o : Outcome) (is : t ≡ App op ts) (same : items ≡ ts) (end : length items ≤ i)
    (built : made ≡ map (normalized th) (take i items)) (sort : sorted ≡ ordered op made) (value : o ≡ outcome_of (App op sorted) (at_root th.sig.sorts th.equations (App op sorted))) where
  whole : normalized th t ≡ rooted th (App op sorted)
  whole =
      ap (normalized th) is ∙ normalized_app th op ts
      ∙ ap (λ us. rooted th (App op (ordered op us))) (ap (map (normalized th)) (sym (take_all i items end ∙ same)) ∙ sym built)
      ∙ ap (λ us. rooted th (App op us)) (sym sort)

  pub value_made : (u : Term) → o ≡ Made u → u ≡ normalized th t
  value_made u made = sym (whole ∙ outcome_rooted (App op sorted) u (at_root th.sig.sorts th.equations (App op sorted)) (sym value ∙ made))

  pub value_kept : (u : Term) → o ≡ Normal u → u ≡ normalized th t
  value_kept u kept = sym (whole ∙ outcome_kept (App op sorted) u (at_root th.sig.sorts th.equations (App op sorted)) (sym value ∙ kept))

pub values_more : (th : Theory) (items made new : List Term) (i : ℕ) (a b : Term) → i < length items → a ≡ get_or items i a → made ≡ map (normalized th) (take i items) → new ≡ made ++ b ∷ [] →
    b ≡ normalized th a → new ≡ map (normalized th) (take (i + 1) items)
values_more th items made new i a b small at built pushed value =
    pushed ∙ ap (λ us. us ++ b ∷ []) built ∙ ap (λ c. map (normalized th) (take i items) ++ c ∷ []) value
    ∙ sym (map-append (normalized th) (take i items) (a ∷ [])) ∙ ap (map (normalized th)) (sym (taken_more items i a small at))
