-- Normal forms, canonical forms and instances: their variables, their names, and that they are well sorted.
use Rattle.std.proofs.Common.{◌≡◌, ◌⊎◌, ℕ, Bool, true, false, ◌&&◌, Option, None, Some, List, [], ◌∷◌, map, slice_get, inl, inr, refl, sym, ◌∙◌, subst}
use Rattle.std.specs.Prelude.{Contains}
use Rattle.std.specs.List.{flat_map, list_all}
use Rattle.std.proofs.lemmas.Bool.{and_parts}
use Rattle.std.proofs.lemmas.List.Elements.{Contains-append_left, Contains-append_right}
use Rattle.npa_sorts.specs.Subsorts.{IsAtOrBelow}
use Rattle.npa_sorts.proofs.Climbs.{decides}
use Rattle.npa_sorts.proofs.Steps.{at_or_below_trans}
use Rattle.npa_term.specs.declared.term.Op.{Op}
use Rattle.npa_term.specs.declared.term.Var.{Var as Variable}
use Rattle.npa_term.specs.declared.term.Term.{Term, Var, Name, App}
use Rattle.npa_term.specs.Bound.{applied}
use Rattle.npa_term.specs.Canonical.{canonical}
use Rattle.npa_term.specs.Parts.{IsPart, image, least_sort}
use Rattle.npa_term.specs.Same.{Same}
use Rattle.npa_term.specs.Symbols.{symbol_count}
use Rattle.npa_term.specs.Variables.{variables}
use Rattle.npa_term.proofs.CanonicalLaws.{canonical_same}
use Rattle.npa_term.proofs.Induction.{Each, by_terms}
use Rattle.npa_term.proofs.Renumbered.{member_variable}
use Rattle.npa_term.proofs.Rows.{applied_app}
use Rattle.npa_term.proofs.SameCases.{same_only_name}
use Rattle.npa_term.proofs.SameLaws.{same_sym}
use Rattle.npa_sig.specs.declared.signature.OpDecl.{OpDecl}
use Rattle.npa_sig.specs.Signature.{Signature}
use Rattle.npa_sig.specs.Sorting.{agrees, all_below, is_below, is_declared, well_sorted}
use Rattle.npa_rewrite.specs.declared.theory.Theory.{Theory}
use Rattle.npa_rewrite.specs.Innermost.{normalized}
use Rattle.npa_rewrite.specs.Rewriting.{AllCancel, IsNormal, Steps, none, more}
use Rattle.npa_rewrite.proofs.FormLaws.{form_same}
use Rattle.npa_rewrite.proofs.InstanceParts.{here, behind, part_of_instance, same_part}
use Rattle.npa_rewrite.proofs.InstanceSteps.{rewrites_names, rewrites_variables}
use Rattle.npa_rewrite.proofs.Instances.{in_app, same_variables, sort_instance}
use Rattle.npa_rewrite.proofs.Lightening.{cancel_lightens}
use Rattle.npa_rewrite.proofs.Normalized.{normalized_form, own_form}
use Rattle.npa_rewrite.proofs.Sorting.{sorted_app, sorted_parts}
use Rattle.npa_variants.proofs.Theories.{IsNarrowing}

-- names

pub same_names : (n : ℕ) {t u : Term} → Same t u → IsPart (Name n) t → IsPart (Name n) u
same_names n {t} {u} same part =
    let there = same_part same part in
    subst (λ x. IsPart x u) (same_only_name there.same n refl) there.there

pub canonical_names : (n : ℕ) (t : Term) → IsPart (Name n) (canonical t) → IsPart (Name n) t
canonical_names n t = same_names n (same_sym (canonical_same t))

-- a name of an instance is one of the term or of the term of a variable
pub record OfImage (s : List (Variable × Term)) (vs : List Variable) (n : ℕ) : Type 0 where
  pub var : Variable
  pub occurs : Contains vs var
  pub there : IsPart (Name n) (image s var)

pub instance_names : (s : List (Variable × Term)) (n : ℕ) (t : Term) → IsPart (Name n) (applied s t) → IsPart (Name n) t ⊎ OfImage s (variables t) n
instance_names s n t part =
    elim (part_of_instance s t (Name n) part) [
      | inl of ↦ inl (as_name of.part of.there of.proper of.form)
      | inr of ↦ inr (record { var = of.var; occurs = of.occurs; there = of.there })
    ]
  where
    named : (p : Term) → ((v : Variable) → p ≡ Var v → ⊥) → Name n ≡ applied s p → p ≡ Name n
    named =
        by_terms (λ p. ((v : Variable) → p ≡ Var v → ⊥) → Name n ≡ applied s p → p ≡ Name n)
        (λ v proper e. absurd (proper v refl)) (λ k proper e. sym e)
        (λ op ts each proper e. (let other : Name n ≡ App op (map (applied s) ts) = e ∙ applied_app s op ts in cc))

    as_name : (p : Term) → IsPart p t → ((v : Variable) → p ≡ Var v → ⊥) → Name n ≡ applied s p → IsPart (Name n) t
    as_name p there proper e = subst (λ x. IsPart x t) (named p proper e) there

-- variables

pub canonical_variables : (t : Term) (v : Variable) → Contains (variables (canonical t)) v → Contains (variables t) v
canonical_variables t v c = same_variables (same_sym (canonical_same t)) v c

pub variables_canonical : (t : Term) (v : Variable) → Contains (variables t) v → Contains (variables (canonical t)) v
variables_canonical t v c = same_variables (canonical_same t) v c

module _ (th : Theory) (cancel : AllCancel th) where
  steps_variables : (v : Variable) {t u : Term} → Steps th t u → Contains (variables u) v → Contains (variables t) v
  steps_variables v none c = c
  steps_variables v (more u w p r) c = steps_variables v p (rewrites_variables th symbol_count (cancel_lightens th cancel) u w v r c)

  -- a normal form has no variables and no names but the term's
  pub form_variables : (t : Term) (v : Variable) → Contains (variables (normalized th t)) v → Contains (variables t) v
  form_variables t v c =
      canonical_variables t v (steps_variables v (normalized_form th cancel t).reached c)

  steps_names : (n : ℕ) {t u : Term} → Steps th t u → IsPart (Name n) u → IsPart (Name n) t
  steps_names n none part = part
  steps_names n (more u v p r) part = steps_names n p (rewrites_names th cancel n u v r part)

  pub form_names : (n : ℕ) (t : Term) → IsPart (Name n) (normalized th t) → IsPart (Name n) t
  form_names n t part = canonical_names n t (steps_names n (normalized_form th cancel t).reached part)

  -- a normal form is normal, and a normal term has its canonical form for it
  pub form_normal : (t : Term) → IsNormal th (normalized th t)
  form_normal t = (normalized_form th cancel t).normal

  pub normal_form_is : (t : Term) → IsNormal th t → normalized th t ≡ canonical t
  normal_form_is t normal = (own_form th t cancel).0 normal

-- instances are well sorted

both : (x y : Bool) → x ≡ true → y ≡ true → x && y ≡ true
both true y d e = e
both false y d e = d

module _ (sig : Signature) (s : List (Variable × Term)) where
  lower_all : (ts : List Term) (xs : List ℕ) → ((t : Term) → Contains ts t → IsAtOrBelow sig.sorts (least_sort (applied s t)) (least_sort t)) →
      all_below sig (map least_sort ts) xs ≡ true → all_below sig (map least_sort (map (applied s) ts)) xs ≡ true
  lower_all [] xs low fits = fits
  lower_all (t ∷ ts) [] low fits = cc
  lower_all (t ∷ ts) (x ∷ xs) low fits =
      let parts = and_parts (is_below sig (least_sort t) x) (all_below sig (map least_sort ts) xs) fits in
      let first : is_below sig (least_sort (applied s t)) x ≡ true =
      (decides sig.sorts (least_sort (applied s t)) x).1 (at_or_below_trans (low t (here t ts)) ((decides sig.sorts (least_sort t) x).0 parts.0)) in
      both (is_below sig (least_sort (applied s t)) x) (all_below sig (map least_sort (map (applied s) ts)) xs) first
      (lower_all ts xs (λ u c. low u (behind t u ts c)) parts.1)

  lower_declared : (op : Op) (ts : List Term) (o : Option OpDecl) → ((t : Term) → Contains ts t → IsAtOrBelow sig.sorts (least_sort (applied s t)) (least_sort t)) →
      is_declared sig op (map least_sort ts) o ≡ true → is_declared sig op (map least_sort (map (applied s) ts)) o ≡ true
  lower_declared op ts None low fits = cc
  lower_declared op ts (Some decl) low fits =
      let parts = and_parts (agrees op decl) (all_below sig (map least_sort ts) decl.args) fits in
      both (agrees op decl) (all_below sig (map least_sort (map (applied s) ts)) decl.args) parts.0 (lower_all ts decl.args low parts.1)

  abbrev Sorts : Term → Type 0
  Sorts t =
      ((v : Variable) → Contains (variables t) v → well_sorted sig (image s v) ≡ true) →
      ((v : Variable) → Contains (variables t) v → IsAtOrBelow sig.sorts (least_sort (image s v)) v.sort) → well_sorted sig t ≡ true → well_sorted sig (applied s t) ≡ true

  sorts_all : (ts : List Term) → Each Sorts ts → ((v : Variable) → Contains (flat_map variables ts) v → well_sorted sig (image s v) ≡ true) →
      ((v : Variable) → Contains (flat_map variables ts) v → IsAtOrBelow sig.sorts (least_sort (image s v)) v.sort) → list_all (well_sorted sig) ts ≡ true →
      list_all (well_sorted sig) (map (applied s) ts) ≡ true
  sorts_all [] each sorted low all = refl
  sorts_all (t ∷ ts) each sorted low all =
      let parts = and_parts (well_sorted sig t) (list_all (well_sorted sig) ts) all in
      both (well_sorted sig (applied s t)) (list_all (well_sorted sig) (map (applied s) ts))
      (each.0 (λ v c. sorted v (Contains-append_left (variables t) (flat_map variables ts) v c)) (λ v c. low v (Contains-append_left (variables t) (flat_map variables ts) v c)) parts.0)
      (sorts_all ts each.1 (λ v c. sorted v (Contains-append_right (variables t) (flat_map variables ts) v c))
      (λ v c. low v (Contains-append_right (variables t) (flat_map variables ts) v c)) parts.1)

  low_members : (ts : List Term) → ((v : Variable) → Contains (flat_map variables ts) v → IsAtOrBelow sig.sorts (least_sort (image s v)) v.sort) → (t : Term) → Contains ts t →
      IsAtOrBelow sig.sorts (least_sort (applied s t)) (least_sort t)
  low_members ts low t c = sort_instance sig.sorts s t (λ v d. low v (member_variable ts t v c d))

  -- an instance of a well-sorted term by well-sorted terms of fitting sorts is well sorted
  pub instance_sorted : (t : Term) → Sorts t
  instance_sorted =
      by_terms Sorts (λ v sorted low is. sorted v (here v [])) (λ n sorted low is. refl)
      (λ op ts each sorted low is.
      let own : (v : Variable) → Contains (flat_map variables ts) v → Contains (variables (App op ts)) v = in_app op ts in
      let parts = sorted_parts sig op ts is in
      subst (λ t. well_sorted sig t ≡ true) (sym (applied_app s op ts))
      (sorted_app sig op (map (applied s) ts)
      (lower_declared op ts (slice_get sig.ops op.num) (low_members ts (λ v c. low v (own v c))) parts.0)
      (sorts_all ts each (λ v c. sorted v (own v c)) (λ v c. low v (own v c)) parts.1)))

-- the canonical form of a well-sorted term may be taken before its normal form
pub form_of_canonical : (th : Theory) → IsNarrowing th → (t : Term) → well_sorted th.sig t ≡ true → normalized th (canonical t) ≡ normalized th t
form_of_canonical th can t sorted =
    sym (form_same th can.cancel can.pairs can.convergent t (canonical t) (canonical_same t) sorted)
