-- The first row is sound.
use Rattle.std.proofs.Common.{◌≡◌, ◌⊎◌, ℕ, true, false, cond, List, [], ◌∷◌, ◌++◌, length, map, take, drop, inl, inr, refl, sym, ◌∙◌, ap, subst}
use Rattle.std.specs.Prelude.{Contains}
use Rattle.std.specs.List.{flat_map}
use Rattle.std.proofs.lemmas.List.Elements.{Contains-append_cases, Contains-push_cases}
use Rattle.npa_sorts.specs.Subsorts.{IsAtOrBelow}
use Rattle.npa_term.specs.declared.term.Var.{Var as Variable}
use Rattle.npa_term.specs.declared.term.Term.{Term, Var, Name, App}
use Rattle.npa_term.specs.Bound.{applied}
use Rattle.npa_term.specs.Numbering.{is_listed, once_after, variables_once}
use Rattle.npa_term.specs.Parts.{IsPart, image, least_sort}
use Rattle.npa_term.specs.Variables.{variables}
use Rattle.npa_term.proofs.Induction.{Each, by_terms}
use Rattle.npa_term.proofs.Numbered.{once_has}
use Rattle.npa_term.proofs.Renumbered.{member_variable, of_member}
use Rattle.npa_term.proofs.Rows.{applied_app}
use Rattle.npa_sig.specs.Sorting.{well_sorted}
use Rattle.npa_rewrite.specs.declared.theory.Theory.{Theory}
use Rattle.npa_rewrite.specs.Innermost.{normalized}
use Rattle.npa_rewrite.specs.Rewriting.{IsNormal}
use Rattle.npa_rewrite.proofs.InstanceParts.{here, behind}
use Rattle.npa_rewrite.proofs.Instances.{in_app}
use Rattle.npa_rewrite.proofs.Root.{leaf_var}
use Rattle.npa_variants.specs.Rows.{Row}
use Rattle.npa_variants.specs.Search.{start_row}
use Rattle.npa_variants.specs.Variants.{bound}
use Rattle.npa_variants.proofs.Forms.{form_names, form_variables}
use Rattle.npa_variants.proofs.Members.{none_there, mapped_member, of_mapped}
use Rattle.npa_variants.proofs.Sound.{HasName, IsSound, bound_is, drop_front, length_map, map_equal, take_front, values_from}
use Rattle.npa_variants.proofs.Theories.{IsNarrowing}
use Rattle.npa_variants.proofs.Unifying.{var_nameless, variable_sorted}

fixed_all : (s : List (Variable × Term)) (ts : List Term) → Each (λ t. ((v : Variable) → Contains (variables t) v → image s v ≡ Var v) → applied s t ≡ t) ts →
    ((v : Variable) → Contains (flat_map variables ts) v → image s v ≡ Var v) → map (applied s) ts ≡ ts
fixed_all s [] each is = refl
fixed_all s (t ∷ ts) each is =
    ap (λ u. u ∷ map (applied s) ts) (each.0 (λ v c. is v (member_variable (t ∷ ts) t v (here t ts) c)))
    ∙ ap (λ us. t ∷ us) (fixed_all s ts each.1 (λ v c. let of = of_member ts v c in is v (member_variable (t ∷ ts) of.0 v (behind t of.0 ts of.1) of.2)))

-- a substitution that leaves a term's variables leaves the term
pub fixed : (s : List (Variable × Term)) (t : Term) → ((v : Variable) → Contains (variables t) v → image s v ≡ Var v) → applied s t ≡ t
fixed s =
    by_terms (λ t. ((v : Variable) → Contains (variables t) v → image s v ≡ Var v) → applied s t ≡ t)
    (λ v is. is v (here v [])) (λ n is. refl)
    (λ op ts each is. applied_app s op ts ∙ ap (App op) (fixed_all s ts each (λ v c. is v (in_app op ts v c))))

-- the variables that are seen once are those of the list
of_once : (seen vs : List Variable) (v : Variable) → Contains (once_after seen vs) v → Contains seen v ⊎ Contains vs v
of_once seen [] v c = inl c
of_once seen (w ∷ ws) v c =
    elim (is_listed seen w) as (λ b. Contains (cond b (once_after seen ws) (once_after (seen ++ w ∷ []) ws)) v → Contains seen v ⊎ Contains (w ∷ ws) v) [
      | true ↦ λ d. elim (of_once seen ws v d) [ inl a ↦ inl a | inr b ↦ inr (behind w v ws b) ]
      | false ↦ λ d. elim (of_once (seen ++ w ∷ []) ws v d) [
        | inl a ↦ elim (Contains-push_cases seen w v a) [ inl e ↦ inl e | inr e ↦ inr (subst (Contains (w ∷ ws)) e (here w ws)) ]
        | inr b ↦ inr (behind w v ws b)
      ]
    ] c

pub once_of : (ts : List Term) (v : Variable) → Contains (variables_once ts) v → Contains (flat_map variables ts) v
once_of ts v c = elim (of_once [] (flat_map variables ts) v c) [ inl a ↦ absurd (none_there v a) | inr b ↦ b ]

pub in_once : (ts : List Term) (v : Variable) → Contains (flat_map variables ts) v → Contains (variables_once ts) v
in_once ts v c = once_has [] (flat_map variables ts) v c

module _ (th : Theory) (vs : List Variable) (terms : List Term) where
  abbrev start : Row
  start = start_row th vs terms

  pub start_taken : take (length vs) start ≡ map Var vs
  start_taken = take_front (length vs) (map Var vs) (map (normalized th) terms) (length_map Var vs)

  pub start_dropped : drop (length vs) start ≡ map (normalized th) terms
  start_dropped = drop_front (length vs) (map Var vs) (map (normalized th) terms) (length_map Var vs)

  -- it stands for the identity
  pub start_bound : (x : Variable) → Contains vs x → image (bound vs start) x ≡ Var x
  start_bound x c = bound_is th vs terms Var start start_taken x c

  module _ (can : IsNarrowing th) (sorted : (t : Term) → Contains terms t → well_sorted th.sig t ≡ true)
      (own : (v : Variable) → Contains (flat_map variables terms) v → Contains vs v) (of : (v : Variable) → Contains vs v → Contains (flat_map variables terms) v) where
    start_fixes : (t : Term) → Contains terms t → applied (bound vs start) t ≡ t
    start_fixes t c = fixed (bound vs start) t (λ v d. start_bound v (own v (member_variable terms t v c d)))

    start_inside : (y : Variable) → Contains (flat_map variables (drop (length vs) start)) y → Contains (flat_map variables (take (length vs) start)) y
    start_inside y c =
        let at = of_member (drop (length vs) start) y c in
        let made = of_mapped (normalized th) terms at.0 (subst (λ ts. Contains ts at.0) start_dropped at.1) in
        let there : Contains (variables made.0) y = form_variables th can.cancel made.0 y (subst (λ t. Contains (variables t) y) made.2 at.2) in
        member_variable (take (length vs) start) (Var y) y
        (subst (λ ts. Contains ts (Var y)) (sym start_taken) (mapped_member Var vs y (own y (member_variable terms made.0 y made.1 there)))) (here y [])

    start_named : (t : Term) → Contains start t → (n : ℕ) → IsPart (Name n) t → HasName terms n
    start_named t c n part =
        elim (Contains-append_cases (map Var vs) (map (normalized th) terms) t c) [
          | inl a ↦ let at = of_mapped Var vs t a in absurd (var_nameless n at.0 part at.2)
          | inr b ↦
              let at = of_mapped (normalized th) terms t b in
              record { term = at.0; listed = at.1; there = form_names th can.cancel n at.0 (subst (IsPart (Name n)) at.2 part) }
        ]

    pub sound_start : IsSound th vs terms start
    sound_start = record {
      values = values_from th vs terms Var start start_taken;
      sorted = λ x c. subst (λ t. well_sorted th.sig t ≡ true) (sym (start_bound x c))
          (let at = of_member terms x (of x c) in variable_sorted th can at.0 x at.2 (sorted at.0 at.1));
      below_sort = λ x c. subst (λ t. IsAtOrBelow th.sig.sorts (least_sort t) x.sort) (sym (start_bound x c)) (inl refl);
      normal = λ x c. subst (IsNormal th) (sym (start_bound x c)) (leaf_var th x can.cancel);
      forms = start_dropped ∙ map_equal (normalized th) (λ t. normalized th (applied (bound vs start) t)) terms (λ t c. ap (normalized th) (sym (start_fixes t c)));
      inside = start_inside;
      nameless = start_named;
    }
