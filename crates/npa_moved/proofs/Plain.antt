-- Terms that are well sorted and have no fresh name, and substitutions that keep them so.
use Rattle.std.proofs.Common.{◌≡◌, ℕ, ◌+◌, true, false, cond, Option, None, Some, unwrap_or, List, [], ◌∷◌, map, Contains, inl, inr, refl, sym, ◌∙◌, ap, subst}
use Rattle.std.proofs.lemmas.Bool.{and_parts, and_from}
use Rattle.npa_sorts.specs.Subsorts.{IsAtOrBelow}
use Rattle.npa_sorts.proofs.Climbs.{decides}
use Rattle.npa_sorts.proofs.Steps.{at_or_below_trans}
use Rattle.npa_term.specs.declared.term.Term.{Term, Var}
use Rattle.npa_term.specs.declared.term.Var.{Var as Variable}
use Rattle.npa_term.specs.Bound.{applied, same_var, value_of}
use Rattle.npa_term.specs.Canonical.{canonical}
use Rattle.npa_term.specs.Numbering.{anew, numbered}
use Rattle.npa_term.specs.Parts.{inside, image, least_sort}
use Rattle.npa_term.specs.Variables.{renamed, variables}
use Rattle.npa_term.proofs.CanonicalLaws.{canonical_same}
use Rattle.npa_term.proofs.Equality.{var_equal}
use Rattle.npa_term.proofs.Parts.{each_member, same_sort}
use Rattle.npa_sig.specs.Sorting.{all_below, is_below, is_sort, well_sorted}
use Rattle.npa_sig.specs.WellFormed.{IsNameless}
use Rattle.npa_sig.proofs.SortedTerms.{arguments_sorted}
use Rattle.npa_unify.specs.Answers.{unifiers}
use Rattle.npa_unify.specs.Unifiers.{AreLow, Keeps}
use Rattle.npa_unify.proofs.Answering.{end_of, whole_end}
use Rattle.npa_unify.proofs.Finishing.{finished_sort}
use Rattle.npa_unify.proofs.Keeping.{kept}
use Rattle.npa_rewrite.specs.declared.theory.Theory.{Theory}
use Rattle.npa_rewrite.proofs.Instances.{sort_instance}
use Rattle.npa_rewrite.proofs.Sorting.{same_sorted}
use Rattle.npa_variants.proofs.Forms.{canonical_names, instance_names, instance_sorted}
use Rattle.npa_variants.proofs.Sounding.{renamed_nameless, renamed_sorted}
use Rattle.npa_variants.proofs.Theories.{IsNarrowing}
use Rattle.npa_variants.proofs.Unifying.{lower_sorted, var_nameless, variable_sorted}
use Rattle.npa_moves.specs.Finishing.{instance_of}

module _ (th : Theory) where
  -- A term is well sorted, and no fresh name stands in it.
  pub record IsPlain (t : Term) : Type 0 where
    pub sorted : well_sorted th.sig t ≡ true
    pub nameless : IsNameless t

  -- A substitution has a plain term for each variable of a sort, and for each variable one of a sort at or
  -- below the variable's.
  pub record KeepsPlain (s : List (Variable × Term)) : Type 0 where
    pub plain : (v : Variable) → IsPlain (Var v) → IsPlain (image s v)
    pub below : (v : Variable) → IsAtOrBelow th.sig.sorts (least_sort (image s v)) v.sort

module _ (th : Theory) (can : IsNarrowing th) where
  pub plain_variable : (t : Term) → IsPlain th t → (v : Variable) → Contains (variables t) v → IsPlain th (Var v)
  plain_variable t plain v c = record { sorted = variable_sorted th can t v c plain.sorted; nameless = λ n part. var_nameless n v part refl }

  pub plain_renamed : (base : ℕ) (t : Term) → IsPlain th t → IsPlain th (renamed base t)
  plain_renamed base t plain = record { sorted = renamed_sorted th can base t plain.sorted; nameless = renamed_nameless th can base t plain.nameless }

  plain_applied : (s : List (Variable × Term)) (t : Term) → ((v : Variable) → Contains (variables t) v → IsPlain th (image s v)) →
      ((v : Variable) → Contains (variables t) v → IsAtOrBelow th.sig.sorts (least_sort (image s v)) v.sort) → IsPlain th t → IsPlain th (applied s t)
  plain_applied s t values below plain = record {
    sorted = instance_sorted th.sig s t (λ v c. (values v c).sorted) below plain.sorted;
    nameless = λ n part. elim (instance_names s n t part) [
      | inl own ↦ plain.nameless n own
      | inr of ↦ (values of.var of.occurs).nameless n of.there
    ];
  }

  plain_canonical : (t : Term) → IsPlain th t → IsPlain th (canonical t)
  plain_canonical t plain = record {
    sorted = same_sorted th.sig can.pairs (canonical_same t) plain.sorted;
    nameless = λ n part. plain.nameless n (canonical_names n t part);
  }

  -- ## Instances

  module _ (s : List (Variable × Term)) (keeps : KeepsPlain th s) where
    pub plain_instance : (t : Term) → IsPlain th t → IsPlain th (instance_of s t)
    plain_instance t plain = plain_canonical (applied s t) (plain_applied s t (λ v c. keeps.plain v (plain_variable t plain v c)) (λ v c. keeps.below v) plain)

    pub below_instance : (t : Term) → IsAtOrBelow th.sig.sorts (least_sort (instance_of s t)) (least_sort t)
    below_instance t =
        subst (λ (n : ℕ). IsAtOrBelow th.sig.sorts n (least_sort t)) (same_sort (applied s t) (instance_of s t) (canonical_same (applied s t)))
        (sort_instance th.sig.sorts s t (λ v c. keeps.below v))

    pub all_below_instance : (ts : List Term) (xs : List ℕ) → all_below th.sig (map least_sort ts) xs ≡ true → all_below th.sig (map least_sort (map (instance_of s) ts)) xs ≡ true
    all_below_instance [] xs fits = fits
    all_below_instance (t ∷ ts) [] fits = cc
    all_below_instance (t ∷ ts) (x ∷ xs) fits =
        let parts = and_parts (is_below th.sig (least_sort t) x) (all_below th.sig (map least_sort ts) xs) fits in
        and_from (is_below th.sig (least_sort (instance_of s t)) x) (all_below th.sig (map least_sort (map (instance_of s) ts)) xs)
        ((decides th.sig.sorts (least_sort (instance_of s t)) x).1 (at_or_below_trans (below_instance t) ((decides th.sig.sorts (least_sort t) x).0 parts.0)))
        (all_below_instance ts xs parts.1)

  -- ## Numbers

  -- A variable is numbered, or it stays.
  record IsVariable (s : List (Variable × Term)) (v : Variable) : Type 0 where
    pub to : Variable
    pub is : image s v ≡ Var to
    pub same_sort : to.sort ≡ v.sort

  to_variable : (k : ℕ) (vs : List Variable) (v : Variable) → IsVariable (numbered k vs) v
  to_variable k vs v = let r = by_list k vs v in record { to = r.0; is = r.1; same_sort = r.2 }
    where
      by_list : (k : ℕ) (vs : List Variable) (v : Variable) → (to : Variable) × (image (numbered k vs) v ≡ Var to) × (to.sort ≡ v.sort)
      by_list k [] v = (v, refl, refl)
      by_list k (w ∷ vs) v =
          elim (same_var w v) as (λ b. same_var w v ≡ b → (to : Variable) × (unwrap_or (cond b (Some (Var (anew k w))) (value_of (numbered (k + 1) vs) v)) (Var v) ≡ Var to) × (to.sort ≡ v.sort)) [
            | true ↦ λ e. (anew k w, refl, ap (λ (x : Variable). x.sort) (var_equal w v e))
            | false ↦ λ e. by_list (k + 1) vs v
          ] refl

  pub numbered_keeps : (k : ℕ) (vs : List Variable) → KeepsPlain th (numbered k vs)
  numbered_keeps k vs = record {
    plain = λ v plain. let n = to_variable k vs v in
        subst (IsPlain th) (sym n.is) (record {
          sorted = subst (λ (s : ℕ). is_sort th.sig s ≡ true) (sym n.same_sort) plain.sorted;
          nameless = λ m part. var_nameless m n.to part refl;
        });
    below = λ v. let n = to_variable k vs v in inl (ap least_sort n.is ∙ n.same_sort);
  }

  -- ## Unifiers

  single : (P : Term → Type 0) (v w : Variable) (t : Term) → (v ≡ w → P t) → P (Var w) → P (image ((v, t) ∷ []) w)
  single P v w t there other =
      elim (same_var v w) as (λ b. same_var v w ≡ b → P (unwrap_or (cond b (Some t) None) (Var w))) [
        | true ↦ λ e. there (var_equal v w e)
        | false ↦ λ e. other
      ] refl

  keeps_plain : Keeps th.sig.sorts (IsPlain th)
  keeps_plain = record {
    arguments = λ op ts t p c. record {
      sorted = each_member (λ x. well_sorted th.sig x ≡ true) ts t (arguments_sorted th.sig op ts p.sorted) c;
      nameless = λ n part. p.nameless n (inside op ts t c part);
    };
    form = plain_canonical;
    put_in = λ v t x low p q.
        plain_applied ((v, t) ∷ []) x
        (λ w c. single (IsPlain th) v w t (λ e. p) (plain_variable x q w c))
        (λ w c. single (λ y. IsAtOrBelow th.sig.sorts (least_sort y) w.sort) v w t (λ e. subst (λ (y : Variable). IsAtOrBelow th.sig.sorts (least_sort t) y.sort) e low) (inl refl))
        q;
    lower = λ v z p low. record { sorted = lower_sorted th can v z p.sorted low; nameless = λ n part. var_nameless n z part refl };
  }

  by_value : (P : Term → Type 0) (s : List (Variable × Term)) (v : Variable) (o : Option Term) → value_of s v ≡ o → ((t : Term) → value_of s v ≡ Some t → P t) → P (Var v) → P (unwrap_or o (Var v))
  by_value P s v None is f p = p
  by_value P s v (Some t) is f p = f t is

  -- a unifier of plain terms keeps terms plain
  pub unifier_keeps : (ps : List (Term × Term)) (next : ℕ) → AreLow ps next → ((t u : Term) → Contains ps (t, u) → IsPlain th t × IsPlain th u) →
      (s : List (Variable × Term)) → Contains (unifiers th.sig.sorts ps next) s → KeepsPlain th s
  unifier_keeps ps next low plain s listed = record {
    plain = λ v p. by_value (IsPlain th) s v (value_of s v) refl (λ t is. kept th.sig.sorts (IsPlain th) keeps_plain ps next low plain s v t listed is) p;
    below = λ v.
        let at = end_of th.sig.sorts ps next s listed in
        let all = whole_end th.sig.sorts ps next at.0 low at.1 in
        subst (λ r. IsAtOrBelow th.sig.sorts (least_sort (image r v)) v.sort) at.3 (finished_sort th.sig.sorts at.0.bound all.sorts (Var v));
  }
