-- Wherever instances of a part of a left side and of a left side are equal, they come of a unifier of the
-- overlap: the lemma of critical pairs (Knuth, Bendix 1970; modulo commutativity: Peterson, Stickel 1981).
use Rattle.std.proofs.Common.{◌≡◌, ◌⊎◌, ℕ, ◌+◌, ◌<◌, ◌≤◌, true, false, Option, None, Some, List, [], ◌∷◌, ◌++◌, map, refl, sym, ◌∙◌, ap, subst, inl, inr, arith}
use Rattle.std.specs.Prelude.{Contains, unwrap_or}
use Rattle.npa_sorts.specs.Subsorts.{AreSorts, IsAtOrBelow}
use Rattle.npa_sorts.proofs.LowerLaws.{IsAcyclic}
use Rattle.npa_term.specs.declared.term.Var.{Var as Variable}
use Rattle.npa_term.specs.declared.term.Term.{Term, Var}
use Rattle.npa_term.specs.Bound.{applied, value_of}
use Rattle.npa_term.specs.Parts.{image, least_sort}
use Rattle.npa_term.specs.Same.{Same, itself, through}
use Rattle.npa_term.specs.Variables.{raised_var, renamed, variables}
use Rattle.npa_term.proofs.AgreeingLaws.{same_variable}
use Rattle.npa_term.proofs.Parts.{image_of}
use Rattle.npa_term.proofs.RenamedLaws.{variables-renamed}
use Rattle.npa_term.proofs.SameLaws.{same_sym}
use Rattle.npa_sig.specs.declared.protocol.Equation.{Equation}
use Rattle.npa_rewrite.specs.declared.theory.Theory.{Theory}
use Rattle.npa_rewrite.specs.Lightening.{Lightens}
use Rattle.npa_rewrite.specs.Reducing.{Joins, Leads, equal, chain}
use Rattle.npa_rewrite.specs.Rewriting.{FitsSorts}
use Rattle.npa_rewrite.proofs.Instances.{applied_variables}
use Rattle.npa_rewrite.proofs.Leading.{joins_instance}
use Rattle.npa_unify.specs.Answers.{distinct, unifiers}
use Rattle.npa_unify.specs.Branches.{has_var, pair_variables}
use Rattle.npa_unify.specs.Unifiers.{Factor, HaveOneSort, IsUnifier}
use Rattle.npa_unify.proofs.Answering.{answered, complete}
use Rattle.npa_unify.proofs.Choosing.{distinct_complete, from_distinct}
use Rattle.npa_unify.proofs.Members.{map_member, member_map, only_one}
use Rattle.npa_unify.proofs.PairVariables.{first_has, has_no_var, has_var_is, second_has}
use Rattle.npa_conv.specs.Critical.{AreCritical}
use Rattle.npa_conv.specs.Overlaps.{AreHoleless, HasOneSort, base_of, hole, holes, next_of, overlap, past}
use Rattle.npa_conv.specs.Verdict.{crossing}
use Rattle.npa_conv.proofs.Carrying.{carried, carried_equal, carries_applied, carries_both, carries_renamed}
use Rattle.npa_conv.proofs.Holes.{bound_image, plain}
use Rattle.npa_conv.proofs.Made.{made, made_has, made_misses}
use Rattle.npa_conv.proofs.Overlapping.{IsRaised, overlap_cases, overlap_low, overlap_one}
use Rattle.npa_conv.proofs.Plainness.{past_above}
use Rattle.npa_conv.proofs.Within.{around_variables, part_variables}

-- the instances of the two right sides lead to one term under each unifier of an overlap
abbrev pub AreJoined : Theory → Type 0
AreJoined th =
    (i j : Equation) → Contains th.equations i → Contains th.equations j → (part around : Term) → Contains (holes i.left) (part, around) →
    (s : List (Variable × Term)) → Contains (distinct (unifiers th.sig.sorts (overlap i part j) (next_of i j))) s →
    Joins th (applied s i.right) (applied s (crossing i j around))

raised_again : (base : ℕ) (v w : Variable) → raised_var base v ≡ raised_var base w → v ≡ w
raised_again base v w e =
    let number : v.num + base ≡ w.num + base = ap (λ (x : Variable). x.num) e in
    let same : v.num ≡ w.num = omega (arith, number) in
    same_variable v w same (ap (λ (x : Variable). x.sort) e)

-- ## The unifier that two substitutions make

module _ (th : Theory) (i j : Equation) (s z : List (Variable × Term)) (fits : FitsSorts th.sig.sorts (variables i.left) s) (also : FitsSorts th.sig.sorts (variables j.left) z)
    (part around : Term) (is : Contains (holes i.left) (part, around)) where
  abbrev joint : List (Variable × Term)
  joint = made (λ v. v) (image s) (variables i.left) ++ (made (raised_var (base_of i)) (image z) (variables j.left) ++ [])

  pub joint_first : (v : Variable) → Contains (variables i.left) v → image joint v ≡ image s v
  joint_first v c =
      image_of joint v (image s v)
      (made_has (λ w. w) (image s) (variables i.left) (made (raised_var (base_of i)) (image z) (variables j.left) ++ []) v c (λ w e. ap (image s) e))

  pub joint_second : (v : Variable) → Contains (variables j.left) v → image joint (raised_var (base_of i) v) ≡ image z v
  joint_second v c =
      image_of joint (raised_var (base_of i) v) (image z v)
      (made_misses (λ w. w) (image s) (variables i.left) (made (raised_var (base_of i)) (image z) (variables j.left) ++ []) (raised_var (base_of i) v)
      (λ w d e.
      let low : w.num < base_of i = past_above (variables i.left) w d in
      let same : w.num ≡ v.num + base_of i = ap (λ (x : Variable). x.num) e in
      omega (arith, low, same))
      ∙ made_has (raised_var (base_of i)) (image z) (variables j.left) [] v c (λ w e. ap (image z) (raised_again (base_of i) w v e)))

  joint_sorts : (v : Variable) → Contains (pair_variables (overlap i part j)) v → IsAtOrBelow th.sig.sorts (least_sort (image joint v)) v.sort
  joint_sorts v c =
      elim (overlap_cases i j part v c) [
        | inl d ↦
            let own = part_variables i.left part around is v d in
            subst (λ t. IsAtOrBelow th.sig.sorts (least_sort t) v.sort) (sym (joint_first v own)) (fits v own)
        | inr r ↦
            subst (λ (x : Variable). IsAtOrBelow th.sig.sorts (least_sort (image joint x)) x.sort) r.raised
            (subst (λ t. IsAtOrBelow th.sig.sorts (least_sort t) r.from.sort) (sym (joint_second r.from r.occurs)) (also r.from r.occurs))
      ]

  joint_part : applied joint part ≡ applied s part
  joint_part =
      carried_equal (applied joint) (applied s) (carries_applied joint) (carries_applied s) part
      (λ v c. joint_first v (part_variables i.left part around is v c))

  joint_left : applied joint (renamed (base_of i) j.left) ≡ applied z j.left
  joint_left =
      carried_equal (λ t. applied joint (renamed (base_of i) t)) (applied z)
      (carries_both (renamed (base_of i)) (applied joint) (carries_renamed (base_of i)) (carries_applied joint)) (carries_applied z) j.left joint_second

  pub joint_unifies : Same (applied s part) (applied z j.left) → IsUnifier th.sig.sorts (overlap i part j) joint
  joint_unifies same = record {
    sorts = joint_sorts;
    equal = λ t u c.
        let e = only_one (part, renamed (base_of i) j.left) (t, u) c in
        subst (λ (p : Term × Term). Same (applied joint p.0) (applied joint p.1)) e
        (subst (λ x. Same x (applied joint (renamed (base_of i) j.left))) (sym joint_part) (subst (Same (applied s part)) (sym joint_left) same));
  }

  -- ## An answer that it is an instance of

  module _ (weigh : Term → ℕ) (light : Lightens th weigh) (first : Contains th.equations i) (second : Contains th.equations j)
      (holeless : AreHoleless th) (one : HasOneSort (variables i.left)) (alone : HasOneSort (variables j.left))
      (r : List (Variable × Term)) (listed : Contains (unifiers th.sig.sorts (overlap i part j) (next_of i j)) r)
      (factor : Factor th.sig.sorts (overlap i part j) (next_of i j) joint r) where
    abbrev d : List (Variable × Term)
    d = factor.then

    low : (v : Variable) → Contains (variables i.left) v → v.num < next_of i j
    low v c = (let small : v.num < base_of i = past_above (variables i.left) v c in omega (arith, small))

    raised_low : (v : Variable) → Contains (variables j.left) v → (raised_var (base_of i) v).num < next_of i j
    raised_low v c = (let small : v.num < past (variables j.left) = past_above (variables j.left) v c in omega (arith, small))

    through_first : (v : Variable) → Contains (variables i.left) v → Same (applied d (image r v)) (image s v)
    through_first v c = subst (Same (applied d (image r v))) (joint_first v c) (same_sym (factor.equal v (low v c)))

    through_second : (v : Variable) → Contains (variables j.left) v → Same (applied d (image r (raised_var (base_of i) v))) (image z v)
    through_second v c =
        subst (Same (applied d (image r (raised_var (base_of i) v)))) (joint_second v c) (same_sym (factor.equal (raised_var (base_of i) v) (raised_low v c)))

    left_same : Same (applied d (applied r i.right)) (applied s i.right)
    left_same =
        carried (λ t. applied d (applied r t)) (applied s) (carries_both (applied r) (applied d) (carries_applied r) (carries_applied d)) (carries_applied s) i.right
        (λ v c. through_first v (light.within i v first c))

    second_same : Same (applied d (applied r (renamed (base_of i) j.right))) (applied z j.right)
    second_same =
        carried (λ t. applied d (applied r (renamed (base_of i) t))) (applied z)
        (carries_both (λ t. renamed (base_of i) t) (λ t. applied d (applied r t)) (carries_renamed (base_of i))
        (carries_both (applied r) (applied d) (carries_applied r) (carries_applied d))) (carries_applied z) j.right
        (λ v c. through_second v (light.within j v second c))

    no_hole : (v : Variable) → Contains (variables i.left) v → Contains (variables (Var v)) hole → ⊥
    no_hole v c e = holeless i first (subst (Contains (variables i.left)) (only_one v hole e) c)

    right_same : Same (applied d (applied r (crossing i j around))) (applied ((hole, applied z j.right) ∷ s) around)
    right_same =
        let by : Term = renamed (base_of i) j.right in
        let put : Term → Term = applied ((hole, by) ∷ []) in
        let f : Term → Term = λ t. applied d (applied r (put t)) in
        let g : Term → Term = applied ((hole, applied z j.right) ∷ s) in
        let at_hole : Same (f (Var hole)) (g (Var hole)) =
        subst (λ t. Same (applied d (applied r t)) (g (Var hole))) (sym (bound_image [] hole by))
        (subst (Same (applied d (applied r by))) (sym (bound_image s hole (applied z j.right))) second_same) in
        let at_own : (v : Variable) → Contains (variables i.left) v → Same (f (Var v)) (g (Var v)) = λ v c.
        subst (λ t. Same (applied d (applied r t)) (g (Var v))) (plain [] by (Var v) (no_hole v c))
        (subst (Same (applied d (image r v))) (plain s (applied z j.right) (Var v) (no_hole v c)) (through_first v c)) in
        carried f g (carries_both put (λ t. applied d (applied r t)) (carries_applied ((hole, by) ∷ [])) (carries_both (applied r) (applied d) (carries_applied r) (carries_applied d)))
        (carries_applied ((hole, applied z j.right) ∷ s)) around
        (λ v c. elim (around_variables i.left part around is v c) [
          | inl e ↦ subst (λ (x : Variable). Same (f (Var x)) (g (Var x))) e at_hole
          | inr own ↦ at_own v own
        ])

    -- the sorts of the values that the factor has

    unbound : (v : Variable) → Contains (variables i.left) v → (Contains (pair_variables (overlap i part j)) v → ⊥) → (o : Option Term) → value_of r v ≡ o → value_of r v ≡ None
    unbound v c other None e = e
    unbound v c other (Some t) e =
        let answer = answered th.sig.sorts (overlap i part j) (next_of i j) r (overlap_low i j part around is) (overlap_one i j part around is one alone) listed in
        elim (answer.own v t e) [
          | inl own ↦ absurd (other own)
          | inr high ↦ absurd (let small : v.num < next_of i j = low v c in let large : next_of i j ≤ v.num = high in omega (arith, small, large))
        ]

    free_sorts : (v w : Variable) → Contains (variables i.left) v → (Contains (pair_variables (overlap i part j)) v → ⊥) → Contains (variables (image r v)) w →
        IsAtOrBelow th.sig.sorts (least_sort (image d w)) w.sort
    free_sorts v w c other of =
        let stays : image r v ≡ Var v = ap (λ o. unwrap_or o (Var v)) (unbound v c other (value_of r v) refl) in
        let same : v ≡ w = only_one v w (subst (λ t. Contains (variables t) w) stays of) in
        let value : image d v ≡ image s v = factor.old v (low v c) ∙ joint_first v c in
        subst (λ (x : Variable). IsAtOrBelow th.sig.sorts (least_sort (image d x)) x.sort) same
        (subst (λ t. IsAtOrBelow th.sig.sorts (least_sort t) v.sort) (sym value) (fits v c))

    own_sorts : (v w : Variable) → Contains (variables i.left) v → Contains (variables (image r v)) w → IsAtOrBelow th.sig.sorts (least_sort (image d w)) w.sort
    own_sorts v w c of =
        elim (has_var (pair_variables (overlap i part j)) v) as (λ b. has_var (pair_variables (overlap i part j)) v ≡ b → IsAtOrBelow th.sig.sorts (least_sort (image d w)) w.sort) [
          | true ↦ λ e. factor.sorts v w (has_var_is (pair_variables (overlap i part j)) v e) of
          | false ↦ λ e. free_sorts v w c (has_no_var (pair_variables (overlap i part j)) v e) of
        ] refl

    raised_in : (v : Variable) → Contains (variables j.left) v → Contains (pair_variables (overlap i part j)) (raised_var (base_of i) v)
    raised_in v c =
        second_has (part, renamed (base_of i) j.left) [] (raised_var (base_of i) v)
        (subst (λ vs. Contains vs (raised_var (base_of i) v)) (sym (variables-renamed (base_of i) j.left)) (member_map (raised_var (base_of i)) (variables j.left) v c))

    left_fits : FitsSorts th.sig.sorts (variables (applied r i.right)) d
    left_fits w c =
        let from = applied_variables r w i.right c in
        own_sorts from.var w (light.within i from.var first from.occurs) from.of

    crossing_cases : (v : Variable) → Contains (variables (crossing i j around)) v → Contains (variables i.left) v ⊎ Contains (pair_variables (overlap i part j)) v
    crossing_cases v c =
        let by : Term = renamed (base_of i) j.right in
        let from = applied_variables ((hole, by) ∷ []) v around c in
        elim (around_variables i.left part around is from.var from.occurs) [
          | inl e ↦
              let here : Contains (variables by) v =
              subst (λ t. Contains (variables t) v) (bound_image [] hole by) (subst (λ (x : Variable). Contains (variables (image ((hole, by) ∷ []) x)) v) (sym e) from.of) in
              let raised = map_member (raised_var (base_of i)) (variables j.right) v (subst (λ vs. Contains vs v) (variables-renamed (base_of i) j.right) here) in
              inr (subst (Contains (pair_variables (overlap i part j))) raised.2 (raised_in raised.0 (light.within j raised.0 second raised.1)))
          | inr own ↦
              let stays : Contains (variables (Var from.var)) v =
              subst (λ t. Contains (variables t) v) (sym (plain [] by (Var from.var) (no_hole from.var own))) from.of in
              inl (subst (Contains (variables i.left)) (only_one from.var v stays) own)
        ]

    right_fits : FitsSorts th.sig.sorts (variables (applied r (crossing i j around))) d
    right_fits w c =
        let from = applied_variables r w (crossing i j around) c in
        elim (crossing_cases from.var from.occurs) [
          | inl own ↦ own_sorts from.var w own from.of
          | inr pair ↦ factor.sorts from.var w pair from.of
        ]

    pub joined_through : Joins th (applied r i.right) (applied r (crossing i j around)) → Joins th (applied s i.right) (applied ((hole, applied z j.right) ∷ s) around)
    joined_through joins =
        let join = joins_instance th weigh light d (applied r i.right) (applied r (crossing i j around)) joins left_fits right_fits in
        record {
          to = join.to;
          left = chain (applied s i.right) (applied d (applied r i.right)) join.to (equal (applied s i.right) (applied d (applied r i.right)) (same_sym left_same)) join.left;
          right = chain (applied ((hole, applied z j.right) ∷ s) around) (applied d (applied r (crossing i j around))) join.to
              (equal (applied ((hole, applied z j.right) ∷ s) around) (applied d (applied r (crossing i j around))) (same_sym right_same)) join.right;
        }

-- So where the instances are joined under each unifier, they are joined under all substitutions.
pub critical : (th : Theory) (weigh : Term → ℕ) → Lightens th weigh → AreSorts th.sig.sorts → IsAcyclic th.sig.sorts → AreHoleless th →
    ((e : Equation) → Contains th.equations e → HasOneSort (variables e.left)) → AreJoined th → AreCritical th
critical th weigh light sorts acyclic holeless one joined i j first second s z fits also part around is same =
    let u = joint th i j s z fits also part around is in
    let unifier = joint_unifies th i j s z fits also part around is same in
    let o = th.sig.sorts in
    let found = complete o (overlap i part j) (next_of i j) sorts acyclic (overlap_low i j part around is) u unifier in
    let kept = distinct_complete o (overlap i part j) (next_of i j) u (unifiers o (overlap i part j) (next_of i j)) found.0 found.1 found.2 in
    joined_through th i j s z fits also part around is weigh light first second holeless (one i first) (one j second) kept.0
    (from_distinct (unifiers o (overlap i part j) (next_of i j)) kept.0 kept.1) kept.2
    (joined i j first second part around is kept.0 kept.1)
