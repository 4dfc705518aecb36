-- Under a unifier of an overlap the instance of the first left side goes on by either equation.
use Rattle.std.proofs.Common.{◌≡◌, ℕ, None, Some, Option, List, [], ◌∷◌, ◌++◌, map, refl, sym, ◌∙◌, ap, subst, inl, inr}
use Rattle.std.specs.Prelude.{Contains, unwrap_or}
use Rattle.std.specs.List.{flat_map}
use Rattle.std.proofs.lemmas.Grind.{flat_map-append}
use Rattle.std.proofs.lemmas.List.{map-append}
use Rattle.std.proofs.lemmas.List.Elements.{Contains-append_left, Contains-append_right}
use Rattle.npa_sorts.specs.Subsorts.{Subsorts, IsAtOrBelow}
use Rattle.npa_term.specs.declared.term.Op.{Op}
use Rattle.npa_term.specs.declared.term.Var.{Var as Variable}
use Rattle.npa_term.specs.declared.term.Term.{Term, Var, App}
use Rattle.npa_term.specs.Bound.{applied, value_of}
use Rattle.npa_term.specs.Canonical.{canonical}
use Rattle.npa_term.specs.Parts.{image, least_sort}
use Rattle.npa_term.specs.Same.{Same, itself}
use Rattle.npa_term.specs.Variables.{raised_var, renamed, variables}
use Rattle.npa_term.proofs.CanonicalLaws.{canonical_same, canonical-canonical}
use Rattle.npa_term.proofs.Parts.{image_of}
use Rattle.npa_term.proofs.Rows.{applied_app}
use Rattle.npa_term.proofs.SameLaws.{same_sym}
use Rattle.npa_sig.specs.declared.protocol.Equation.{Equation}
use Rattle.npa_rewrite.specs.declared.theory.Theory.{Theory}
use Rattle.npa_rewrite.specs.Innermost.{normalized}
use Rattle.npa_rewrite.specs.Lightening.{Lightens}
use Rattle.npa_rewrite.specs.Reducing.{Reduces, top, under}
use Rattle.npa_rewrite.specs.Rewriting.{AllCancel, FitsSorts, Rewrites, Steps, none, more}
use Rattle.npa_rewrite.proofs.Instances.{in_app}
use Rattle.npa_rewrite.proofs.Normalized.{normalized_is}
use Rattle.npa_rewrite.proofs.Positions.{one_at, rewrites}
use Rattle.npa_rewrite.proofs.Under.{rewrites_same, steps_after}
use Rattle.npa_unify.specs.Unifiers.{IsAnswer}
use Rattle.npa_unify.proofs.Members.{here, only_one}
use Rattle.npa_conv.specs.Overlaps.{AreHoleless, base_of, hole, holes, next_of, overlap}
use Rattle.npa_conv.specs.Verdict.{crossing, from_of, left_of, right_of}
use Rattle.npa_conv.proofs.Carrying.{carried_equal, carries_applied, carries_both, carries_renamed}
use Rattle.npa_conv.proofs.Holes.{bound_image, plain}
use Rattle.npa_conv.proofs.Made.{made, made_has}
use Rattle.npa_conv.proofs.Places.{plain_all}
use Rattle.npa_conv.proofs.Within.{around_variables, at_places}

-- a step of a part is one of the term, with what comes of it in the hole
module _ (th : Theory) (s : List (Variable × Term)) (w : Term) where
  abbrev g : Term → Term
  g = applied ((hole, w) ∷ s)

  abbrev Goes : Term → Term → Term → Type 0
  Goes t part around = (Contains (variables t) hole → ⊥) → Reduces th (applied s part) w → Reduces th (applied s t) (g around)

  free_before : (op : Op) (before after : List Term) (t : Term) → (Contains (variables (App op (before ++ t ∷ after))) hole → ⊥) → Contains (flat_map variables before) hole → ⊥
  free_before op before after t free c =
      free (in_app op (before ++ t ∷ after) hole (subst (λ vs. Contains vs hole) (sym (flat_map-append variables before (t ∷ after)))
      (Contains-append_left (flat_map variables before) (flat_map variables (t ∷ after)) hole c)))

  free_from : (op : Op) (before after : List Term) (t : Term) → (Contains (variables (App op (before ++ t ∷ after))) hole → ⊥) → Contains (flat_map variables (t ∷ after)) hole → ⊥
  free_from op before after t free c =
      free (in_app op (before ++ t ∷ after) hole (subst (λ vs. Contains vs hole) (sym (flat_map-append variables before (t ∷ after)))
      (Contains-append_right (flat_map variables before) (flat_map variables (t ∷ after)) hole c)))

  goes_under : (op : Op) (before after : List Term) (t part around : Term) → Goes t part around → Goes (App op (before ++ t ∷ after)) part (App op (before ++ around ∷ after))
  goes_under op before after t part around has free r =
      let own : Contains (variables t) hole → ⊥ = λ c. free_from op before after t free (Contains-append_left (variables t) (flat_map variables after) hole c) in
      let behind : Contains (flat_map variables after) hole → ⊥ = λ c. free_from op before after t free (Contains-append_right (variables t) (flat_map variables after) hole c) in
      let from : applied s (App op (before ++ t ∷ after)) ≡ App op (map (applied s) before ++ applied s t ∷ map (applied s) after) =
      applied_app s op (before ++ t ∷ after) ∙ ap (App op) (map-append (applied s) before (t ∷ after)) in
      let to : App op (map (applied s) before ++ g around ∷ map (applied s) after) ≡ g (App op (before ++ around ∷ after)) =
      ap (λ us. App op (us ++ g around ∷ map (applied s) after)) (plain_all s w before (free_before op before after t free))
      ∙ ap (λ us. App op (map g before ++ g around ∷ us)) (plain_all s w after behind)
      ∙ ap (App op) (sym (map-append g before (around ∷ after))) ∙ sym (applied_app ((hole, w) ∷ s) op (before ++ around ∷ after)) in
      subst (λ x. Reduces th x (g (App op (before ++ around ∷ after)))) (sym from)
      (subst (Reduces th (App op (map (applied s) before ++ applied s t ∷ map (applied s) after))) to
      (under op (map (applied s) before ++ applied s t ∷ map (applied s) after) (map (applied s) before ++ g around ∷ map (applied s) after)
      (one_at th (map (applied s) before) (map (applied s) after) (applied s t) (g around) (has own r))))

  pub reduces_at : (t part around : Term) → Contains (holes t) (part, around) → (Contains (variables t) hole → ⊥) → Reduces th (applied s part) w → Reduces th (applied s t) (g around)
  reduces_at =
      at_places Goes (λ op ts free r. subst (Reduces th (applied s (App op ts))) (sym (bound_image s hole w)) r) goes_under

module _ (th : Theory) (weigh : Term → ℕ) (light : Lightens th weigh) (holeless : AreHoleless th) (i j : Equation) (first : Contains th.equations i) (second : Contains th.equations j)
    (part around : Term) (is : Contains (holes i.left) (part, around)) (s : List (Variable × Term)) (answer : IsAnswer th.sig.sorts (overlap i part j) (next_of i j) s) where
  abbrev by : Term
  by = renamed (base_of i) j.right

  value_sorts : (v : Variable) (o : Option Term) → value_of s v ≡ o → IsAtOrBelow th.sig.sorts (least_sort (image s v)) v.sort
  value_sorts v None e = inl (ap (λ x. least_sort (unwrap_or x (Var v))) e)
  value_sorts v (Some t) e = subst (λ x. IsAtOrBelow th.sig.sorts (least_sort x) v.sort) (sym (image_of s v t e)) (answer.sorts v t e)

  pub sorts_of : (v : Variable) → IsAtOrBelow th.sig.sorts (least_sort (image s v)) v.sort
  sorts_of v = value_sorts v (value_of s v) refl

  -- by the first equation, at the top
  first_step : Reduces th (applied s i.left) (applied s i.right)
  first_step = top i s (applied s i.left) first (λ v c. sorts_of v) (itself (applied s i.left))

  -- the values of the second equation's variables
  abbrev behind : List (Variable × Term)
  behind = made (λ v. v) (λ v. image s (raised_var (base_of i) v)) (variables j.left) ++ []

  behind_value : (v : Variable) → Contains (variables j.left) v → image behind v ≡ image s (raised_var (base_of i) v)
  behind_value v c =
      image_of behind v (image s (raised_var (base_of i) v))
      (made_has (λ w. w) (λ w. image s (raised_var (base_of i) w)) (variables j.left) [] v c (λ w e. ap (λ x. image s (raised_var (base_of i) x)) e))

  behind_does : (t : Term) → ((v : Variable) → Contains (variables t) v → Contains (variables j.left) v) → applied behind t ≡ applied s (renamed (base_of i) t)
  behind_does t own =
      carried_equal (applied behind) (λ x. applied s (renamed (base_of i) x)) (carries_applied behind)
      (carries_both (renamed (base_of i)) (applied s) (carries_renamed (base_of i)) (carries_applied s)) t (λ v c. behind_value v (own v c))

  part_step : Reduces th (applied s part) (applied s by)
  part_step =
      let same : Same (applied s part) (applied s (renamed (base_of i) j.left)) = answer.unifier.equal part (renamed (base_of i) j.left) (here (part, renamed (base_of i) j.left) []) in
      subst (Reduces th (applied s part)) (behind_does j.right (λ v c. light.within j v second c))
      (top j behind (applied s part) second
      (λ v c. subst (λ x. IsAtOrBelow th.sig.sorts (least_sort x) v.sort) (sym (behind_value v c)) (sorts_of (raised_var (base_of i) v)))
      (subst (Same (applied s part)) (sym (behind_does j.left (λ v c. c))) same))

  no_hole : (v : Variable) → Contains (variables i.left) v → Contains (variables (Var v)) hole → ⊥
  no_hole v c e = holeless i first (subst (Contains (variables i.left)) (only_one v hole e) c)

  crossing_is : applied ((hole, applied s by) ∷ s) around ≡ applied s (crossing i j around)
  crossing_is =
      let put : Term → Term = applied ((hole, by) ∷ []) in
      let f : Term → Term = applied ((hole, applied s by) ∷ s) in
      let g : Term → Term = λ t. applied s (put t) in
      carried_equal f g (carries_applied ((hole, applied s by) ∷ s)) (carries_both put (applied s) (carries_applied ((hole, by) ∷ [])) (carries_applied s)) around
      (λ v c. elim (around_variables i.left part around is v c) [
        | inl e ↦ subst (λ (x : Variable). f (Var x) ≡ g (Var x)) e (bound_image s hole (applied s by) ∙ sym (ap (applied s) (bound_image [] hole by)))
        | inr own ↦ sym (plain s (applied s by) (Var v) (no_hole v own)) ∙ ap (applied s) (plain [] by (Var v) (no_hole v own))
      ])

  -- by the second one, at the part
  second_step : Reduces th (applied s i.left) (applied s (crossing i j around))
  second_step = subst (Reduces th (applied s i.left)) crossing_is (reduces_at th s (applied s by) i.left part around is (holeless i first) part_step)

  goes_on : AllCancel th → (t : Term) → Reduces th (applied s i.left) t → Steps th (from_of i s) (normalized th (canonical t))
  goes_on cancel t r =
      let step : Rewrites th (from_of i s) (canonical t) = rewrites_same th (from_of i s) (applied s i.left) (canonical t) (same_sym (canonical_same (applied s i.left))) (rewrites th r) in
      let rest : Steps th (canonical t) (normalized th (canonical t)) =
      subst (λ x. Steps th x (normalized th (canonical t))) (canonical-canonical t) (normalized_is th cancel (canonical t)).reached in
      steps_after th (more (from_of i s) (canonical t) none step) rest

  pub left_steps : AllCancel th → Steps th (from_of i s) (left_of th i s)
  left_steps cancel = goes_on cancel (applied s i.right) first_step

  pub right_steps : AllCancel th → Steps th (from_of i s) (right_of th (crossing i j around) s)
  right_steps cancel = goes_on cancel (applied s (crossing i j around)) second_step
