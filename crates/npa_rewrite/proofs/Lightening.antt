-- Equations that cancel make terms lighter, and what steps by equations that do keep.
use Rattle.std.proofs.Common.{◌≡◌, ◌<◌, ℕ, List, [], ◌∷◌, ◌++◌, append_assoc, refl, sym, ◌∙◌, ap, subst, inl, inr, arith}
use Rattle.std.specs.Prelude.{Contains}
use Rattle.std.specs.List.{flat_map}
use Rattle.std.proofs.lemmas.List.Elements.{Contains-append_left, Contains-append_right, Contains-append_cases}
use Rattle.npa_sorts.specs.Subsorts.{IsAtOrBelow}
use Rattle.npa_term.specs.declared.term.Op.{Op}
use Rattle.npa_term.specs.declared.term.Var.{Var as Variable}
use Rattle.npa_term.specs.declared.term.Term.{Term, App}
use Rattle.npa_term.specs.Bound.{applied}
use Rattle.npa_term.specs.Parts.{least_sort}
use Rattle.npa_term.specs.Symbols.{symbol_count}
use Rattle.npa_term.specs.Variables.{variables}
use Rattle.npa_term.proofs.Parts.{is_app, only_member, same_sort}
use Rattle.npa_term.proofs.Rows.{symbol_count_at}
use Rattle.npa_term.proofs.SameLaws.{same_sym, same_count}
use Rattle.npa_sig.specs.Sorting.{well_sorted}
use Rattle.npa_rewrite.specs.declared.theory.Theory.{Theory}
use Rattle.npa_rewrite.specs.Lightening.{Lightens}
use Rattle.npa_rewrite.specs.Reducing.{Reduces, top, under, ReducesOne, now, later}
use Rattle.npa_rewrite.specs.Rewriting.{AllCancel, Rewrites, here}
use Rattle.npa_rewrite.proofs.Instances.{in_app, of_app, same_variables, image_variables, applied_variables}
use Rattle.npa_rewrite.proofs.Kept.{count_in, replaced_smaller, replaced_sort, right_is, shape_of}
use Rattle.npa_rewrite.proofs.Positions.{reduces}
use Rattle.npa_rewrite.proofs.Sorting.{image_sorted}

count_under : (op : Op) (before after : List Term) (t u : Term) → symbol_count u < symbol_count t → symbol_count (App op (before ++ u ∷ after)) < symbol_count (App op (before ++ t ∷ after))
count_under op before after t u small =
    let rest = count_in before after t u small in
    let l = symbol_count_at (App op (before ++ t ∷ after)) op (before ++ t ∷ after) refl in
    let m = symbol_count_at (App op (before ++ u ∷ after)) op (before ++ u ∷ after) refl in
    omega (arith, rest, l, m)

-- equations that cancel make terms smaller
pub cancel_lightens : (th : Theory) → AllCancel th → Lightens th symbol_count
cancel_lightens th cancel = record {
  left = λ e c. let shape = shape_of th cancel e c in is_app e.left shape.left shape.var shape.occurs;
  within = λ e v c d.
      let shape = shape_of th cancel e c in
      subst (Contains (variables e.left)) (only_member shape.var v (subst (λ t. Contains (variables t) v) shape.right d)) shape.occurs;
  sorted = λ e s c q sorted.
      let shape = shape_of th cancel e c in
      ap (well_sorted th.sig) (right_is th.sig.sorts e s shape) ∙ image_sorted th.sig s shape.var e.left shape.occurs sorted;
  sort = λ e s c q. replaced_sort th cancel (here e s c q);
  lighter = λ e s c q. replaced_smaller th cancel (here e s c q);
  classes = λ t u p. same_count p;
  under = count_under;
}

module _ (th : Theory) (weigh : Term → ℕ) (light : Lightens th weigh) where
  mutual
    -- a step makes a term lighter
    pub reduces_lighter : {t u : Term} → Reduces th t u → weigh u < weigh t
    reduces_lighter (top e s t c q p) =
        let less = light.lighter e s c q in
        let even : weigh t ≡ weigh (applied s e.left) = light.classes t (applied s e.left) p in
        omega (arith, less, even)
    reduces_lighter (under op ts us r) = one_lighter op [] r

    one_lighter : (op : Op) (before : List Term) {ts us : List Term} → ReducesOne th ts us → weigh (App op (before ++ us)) < weigh (App op (before ++ ts))
    one_lighter op before (now t u ts r) = light.under op before ts t u (reduces_lighter r)
    one_lighter op before (later t ts us r) =
        subst (λ xs. weigh (App op (before ++ t ∷ us)) < weigh (App op xs)) (append_assoc before (t ∷ []) ts)
        (subst (λ xs. weigh (App op xs) < weigh (App op ((before ++ t ∷ []) ++ ts))) (append_assoc before (t ∷ []) us) (one_lighter op (before ++ t ∷ []) r))

  pub rewrites_lighter : (t u : Term) → Rewrites th t u → weigh u < weigh t
  rewrites_lighter t u r =
      let one = reduces th t u r in
      let less : weigh one.0 < weigh t = reduces_lighter one.1 in
      let even : weigh one.0 ≡ weigh u = light.classes one.0 u one.2 in
      omega (arith, less, even)

  -- its sort does not rise
  pub reduces_sort : {t u : Term} → Reduces th t u → IsAtOrBelow th.sig.sorts (least_sort u) (least_sort t)
  reduces_sort (top e s t c q p) =
      subst (IsAtOrBelow th.sig.sorts (least_sort (applied s e.right))) (sym (same_sort t (applied s e.left) p)) (light.sort e s c q)
  reduces_sort (under op ts us r) = inl refl

  mutual
    -- and it brings no variables
    pub reduces_variables : {t u : Term} → Reduces th t u → (v : Variable) → Contains (variables u) v → Contains (variables t) v
    reduces_variables (top e s t c q p) v d =
        let from = applied_variables s v e.right d in
        same_variables (same_sym p) v (image_variables s from.var v e.left (light.within e from.var c from.occurs) from.of)
    reduces_variables (under op ts us r) v d = in_app op ts v (one_variables r v (of_app op us v d))

    one_variables : {ts us : List Term} → ReducesOne th ts us → (v : Variable) → Contains (flat_map variables us) v → Contains (flat_map variables ts) v
    one_variables (now t u ts r) v d =
        elim (Contains-append_cases (variables u) (flat_map variables ts) v d) [
          | inl a ↦ Contains-append_left (variables t) (flat_map variables ts) v (reduces_variables r v a)
          | inr b ↦ Contains-append_right (variables t) (flat_map variables ts) v b
        ]
    one_variables (later t ts us r) v d =
        elim (Contains-append_cases (variables t) (flat_map variables us) v d) [
          | inl a ↦ Contains-append_left (variables t) (flat_map variables ts) v a
          | inr b ↦ Contains-append_right (variables t) (flat_map variables ts) v (one_variables r v b)
        ]
