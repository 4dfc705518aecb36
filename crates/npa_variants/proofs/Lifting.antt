-- The lifting lemma: where a substitution that serves normal values at a sound row isn't settled, something comes
-- of the row at which a substitution serves them with a lighter instance (Hullot 1980, on narrowing; Escobar,
-- Sasse, Meseguer 2012, on variants).
use Rattle.std.proofs.Common.{◌≡◌, ◌⊎◌, ◌<◌, ◌≤◌, ◌+◌, ℕ, true, false, Option, Some, None, List, [], ◌∷◌, ◌++◌, length, map, take, drop, zip, inl, inr, refl, sym, ◌∙◌, ap, subst, arith}
use Rattle.std.specs.Prelude.{Contains, unwrap_or}
use Rattle.std.specs.List.{flat_map}
use Rattle.std.proofs.lemmas.List.{map-append, take-append-drop}
use Rattle.std.proofs.lemmas.List.Elements.{Contains-append_cases}
use Rattle.npa_sorts.specs.Subsorts.{IsAtOrBelow}
use Rattle.npa_term.specs.declared.term.Var.{Var as Variable}
use Rattle.npa_term.specs.declared.term.Term.{Term, Var}
use Rattle.npa_term.specs.Bound.{applied, value_of}
use Rattle.npa_term.specs.Canonical.{canonical}
use Rattle.npa_term.specs.Composition.{composed}
use Rattle.npa_term.specs.Numbering.{unnumbering, variables_once}
use Rattle.npa_term.specs.Parts.{image, least_sort}
use Rattle.npa_term.specs.Same.{Same, SameAll, itself, nothing, first, through}
use Rattle.npa_term.specs.Symbols.{symbol_count}
use Rattle.npa_term.specs.Variables.{renamed, raised_var, variables}
use Rattle.npa_term.proofs.CanonicalLaws.{canonical_same}
use Rattle.npa_term.proofs.Lifted.{lifted, lifted_below, lifted_renamed, lifted_value}
use Rattle.npa_term.proofs.Numbered.{unnumbered_sort}
use Rattle.npa_term.proofs.Parts.{image_of}
use Rattle.npa_term.proofs.Renumbered.{of_member, renumbered_cover}
use Rattle.npa_term.proofs.SameCases.{same_all_trans}
use Rattle.npa_term.proofs.SameLaws.{same_sym, same_applied, same_count}
use Rattle.npa_sig.specs.Sorting.{well_sorted}
use Rattle.npa_sig.specs.WellFormed.{IsNameless}
use Rattle.npa_sig.specs.declared.protocol.Equation.{Equation}
use Rattle.npa_unify.specs.Answers.{unifiers}
use Rattle.npa_unify.specs.Branches.{has_var, pair_variables}
use Rattle.npa_unify.specs.Unifiers.{Factor, IsUnifier}
use Rattle.npa_unify.proofs.Answering.{complete}
use Rattle.npa_unify.proofs.Choosing.{distinct_complete}
use Rattle.npa_unify.proofs.Members.{only_one}
use Rattle.npa_unify.proofs.PairVariables.{has_no_var, has_var_is}
use Rattle.npa_rewrite.specs.declared.theory.Theory.{Theory}
use Rattle.npa_rewrite.specs.Innermost.{normalized}
use Rattle.npa_rewrite.specs.Normal.{is_normal_by}
use Rattle.npa_rewrite.specs.Rewriting.{FitsSorts, IsNormal}
use Rattle.npa_rewrite.proofs.InstanceParts.{here, behind, part_applied, part_variables}
use Rattle.npa_rewrite.proofs.InstanceSteps.{normal_of_instance}
use Rattle.npa_rewrite.proofs.Instances.{applied_variables}
use Rattle.npa_rewrite.proofs.Normality.{is_normal_own}
use Rattle.npa_rewrite.proofs.Parts.{normal_part}
use Rattle.npa_rewrite.proofs.Under.{normal_same}
use Rattle.npa_variants.specs.Rows.{Row}
use Rattle.npa_variants.specs.Search.{are_normal, result_of, values_under}
use Rattle.npa_variants.specs.Variants.{Covers, bound}
use Rattle.npa_variants.proofs.Closed.{Steps}
use Rattle.npa_variants.proofs.Covers.{Serves, Settles, covers_serves, covers_size, same_total, size, total}
use Rattle.npa_variants.proofs.Forms.{canonical_variables, form_variables, normal_form_is}
use Rattle.npa_variants.proofs.Levels.{RowResult, unifiers_of}
use Rattle.npa_variants.proofs.Listing.{IsOwn, all_pass, own_is, part_sorted}
use Rattle.npa_variants.proofs.Measures.{form_less, form_upto, total_append, total_less}
use Rattle.npa_variants.proofs.Members.{mapped_member, of_mapped, same_all_member}
use Rattle.npa_variants.proofs.Redexes.{Found, reducible, settled_or_found}
use Rattle.npa_variants.proofs.Sound.{IsSound, agree, dropped_variable, form_is_sorted, image_zip, length_map, map_map, renamed_instance, row_values, take_front, taken_variable}
use Rattle.npa_variants.proofs.Sounding.{raising, raising_is, renamed_nameless, renamed_sorted}
use Rattle.npa_variants.proofs.Theories.{IsNarrowing}
use Rattle.npa_variants.proofs.Unifying.{base_of, next_of, past_above, problem, problem_cases, problem_low, unifier_equal, unifier_fits, unifier_own}

module _ (th : Theory) (vs : List Variable) (terms : List Term) (can : IsNarrowing th) (sorted : (t : Term) → Contains terms t → well_sorted th.sig t ≡ true)
    (own : (v : Variable) → Contains (flat_map variables terms) v → Contains vs v) where
  -- an own application has the row's variables and is well sorted
  module _ (r : Row) (sound : IsSound th vs terms r) (u : Term) (is : IsOwn (length vs) r u) where
    own_variables : (v : Variable) → Contains (variables u) v → Contains (flat_map variables r) v
    own_variables v c = dropped_variable th vs terms r is.term v is.listed (part_variables v is.there c)

    own_sorted : well_sorted th.sig u ≡ true
    own_sorted = part_sorted th.sig is.there (form_is_sorted th vs terms can sorted own r sound is.term is.listed)

  -- ## What a unifier of an own application does to it

  module _ (r : Row) (sound : IsSound th vs terms r) (u : Term) (is : IsOwn (length vs) r u) (e : Equation) (listed : Contains th.equations e)
      (d : List (Variable × Term)) (member : Contains (unifiers_of th r u e) d) where
    abbrev base : ℕ
    base = base_of r

    left_sorted : well_sorted th.sig (renamed base e.left) ≡ true
    left_sorted = renamed_sorted th can base e.left (can.sorted e listed)

    left_nameless : IsNameless (renamed base e.left)
    left_nameless = renamed_nameless th can base e.left (can.nameless e listed)

    pub fits_all : (v : Variable) → IsAtOrBelow th.sig.sorts (least_sort (image d v)) v.sort
    fits_all v = unifier_fits th can r u e (own_variables r sound u is) listed (own_sorted r sound u is) left_sorted left_nameless d member v

    bound_own : (v : Variable) (t : Term) → value_of d v ≡ Some t → Contains (pair_variables (problem r u e)) v ⊎ (next_of r e ≤ v.num)
    bound_own v t b = unifier_own th can r u e (own_variables r sound u is) listed (own_sorted r sound u is) left_sorted left_nameless d member v t b

    -- what the unifier has for the variables of the left side
    abbrev lefts : List (Variable × Term)
    lefts = zip (variables e.left) (map (λ v. image d (raised_var base v)) (variables e.left))

    lefts_are : (v : Variable) → Contains (variables e.left) v → image lefts v ≡ image d (raised_var base v)
    lefts_are v c = image_zip (λ w. image d (raised_var base w)) (variables e.left) v c

    lefts_fit : FitsSorts th.sig.sorts (variables e.left) lefts
    lefts_fit v c = subst (λ t. IsAtOrBelow th.sig.sorts (least_sort t) v.sort) (sym (lefts_are v c)) (fits_all (raised_var base v))

    left_same : Same (applied d (renamed base e.left)) (applied lefts e.left)
    left_same =
        subst (λ t. Same (applied d t) (applied lefts e.left)) (renamed_instance base e.left)
        (agree (raising th can base e.left) lefts d e.left (λ v c.
        subst (λ t. Same (applied d t) (image lefts v)) (sym (raising_is th can base e.left v c)) (subst (λ t. Same t (image lefts v)) (lefts_are v c) (itself (image lefts v)))))

    -- its instance has a redex
    pub own_reducible : IsNormal th (applied d u) → ⊥
    own_reducible =
        reducible th e lefts (applied d u) listed lefts_fit
        (same_sym (through (applied d u) (applied d (renamed base e.left)) (applied lefts e.left)
        (unifier_equal th can r u e (own_variables r sound u is) listed (own_sorted r sound u is) left_sorted left_nameless d member) left_same))

    -- and so has the instance of its term
    pub term_reducible : IsNormal th (applied d is.term) → ⊥
    term_reducible normal = own_reducible (normal_part th (part_applied d is.there) normal)

  -- ## The unifier that is made of a redex

  module _ (values : List Term) (normal : (t : Term) → Contains values t → IsNormal th t) (r : Row) (sound : IsSound th vs terms r) (s : List (Variable × Term))
      (serves : Serves th.sig.sorts (length vs) values r s) where
    abbrev IsWithin : Term → Type 0
    IsWithin t = (v : Variable) → Contains (variables t) v → Contains (flat_map variables r) v

    taken_within : (t : Term) → Contains (take (length vs) r) t → IsWithin t
    taken_within t c v d = taken_variable th vs terms r t v c d

    dropped_within : (t : Term) → Contains (drop (length vs) r) t → IsWithin t
    dropped_within t c v d = dropped_variable th vs terms r t v c d

    value_normal : (t : Term) → Contains (take (length vs) r) t → IsNormal th (applied s t)
    value_normal t c =
        let at = same_all_member serves.equal (applied s t) (mapped_member (applied s) (take (length vs) r) t c) in
        normal_same th at.0 (applied s t) (same_sym at.2) (normal at.0 at.1)

    module _ (f : Found th (length vs) r s) where
      abbrev u : Term
      u = f.part

      abbrev e : Equation
      e = f.equation

      is : IsOwn (length vs) r u
      is = own_is (length vs) r u f.own

      abbrev joint : List (Variable × Term)
      joint = lifted (base_of r) f.values (variables e.left) ++ s

      small : (v : Variable) → Contains (flat_map variables r) v → v.num < base_of r
      small v c = past_above (flat_map variables r) v c

      joint_below : (t : Term) → IsWithin t → applied joint t ≡ applied s t
      joint_below t within = lifted_below (base_of r) f.values s (variables e.left) t (λ v c. small v (within v c))

      joint_own : (v : Variable) → Contains (flat_map variables r) v → image joint v ≡ image s v
      joint_own v c = joint_below (Var v) (λ w d. subst (Contains (flat_map variables r)) (only_one v w d) c)

      joint_raised : (v : Variable) → Contains (variables e.left) v → image joint (raised_var (base_of r) v) ≡ image f.values v
      joint_raised v c = image_of joint (raised_var (base_of r) v) (image f.values v) (lifted_value (base_of r) f.values s (variables e.left) v c)

      joint_sorts : (v : Variable) → Contains (pair_variables (problem r u e)) v → IsAtOrBelow th.sig.sorts (least_sort (image joint v)) v.sort
      joint_sorts v c =
          elim (problem_cases r u e v c) [
            | inl d ↦
                let there = own_variables r sound u is v d in
                subst (λ t. IsAtOrBelow th.sig.sorts (least_sort t) v.sort) (sym (joint_own v there)) (serves.sorts v there)
            | inr x ↦
                subst (λ (y : Variable). IsAtOrBelow th.sig.sorts (least_sort (image joint y)) y.sort) x.raised
                (subst (λ t. IsAtOrBelow th.sig.sorts (least_sort t) x.from.sort) (sym (joint_raised x.from x.occurs)) (f.fits x.from x.occurs))
          ]

      joint_equal : Same (applied joint u) (applied joint (renamed (base_of r) e.left))
      joint_equal =
          subst (λ t. Same t (applied joint (renamed (base_of r) e.left))) (sym (joint_below u (own_variables r sound u is)))
          (subst (Same (applied s u)) (sym (lifted_renamed (base_of r) f.values s (variables e.left) e.left (λ v c. c))) (same_sym f.equal))

      joint_unifies : IsUnifier th.sig.sorts (problem r u e) joint
      joint_unifies = record {
        sorts = joint_sorts;
        equal = λ t x c.
            subst (λ (p : Term × Term). Same (applied joint p.0) (applied joint p.1)) (only_one (u, renamed (base_of r) e.left) (t, x) c) joint_equal;
      }

      factored : (d : List (Variable × Term)) × Contains (unifiers_of th r u e) d × Factor th.sig.sorts (problem r u e) (next_of r e) joint d
      factored =
          let found = complete th.sig.sorts (problem r u e) (next_of r e) can.sorts can.acyclic (problem_low r u e (own_variables r sound u is)) joint joint_unifies in
          distinct_complete th.sig.sorts (problem r u e) (next_of r e) joint (unifiers th.sig.sorts (problem r u e) (next_of r e)) found.0 found.1 found.2

      module _ (d : List (Variable × Term)) (member : Contains (unifiers_of th r u e) d) (factor : Factor th.sig.sorts (problem r u e) (next_of r e) joint d) where
        abbrev g : List (Variable × Term)
        g = factor.then

        low : (v : Variable) → Contains (flat_map variables r) v → v.num < next_of r e
        low v c = (let less : v.num < base_of r = small v c in omega (arith, less))

        through_own : (v : Variable) → Contains (flat_map variables r) v → Same (applied g (image d v)) (image s v)
        through_own v c = subst (Same (applied g (image d v))) (joint_own v c) (same_sym (factor.equal v (low v c)))

        -- the factor after the unifier does what the given substitution does
        instance_same : (t : Term) → IsWithin t → Same (applied g (applied d t)) (applied s t)
        instance_same t within = agree d s g t (λ v c. through_own v (within v c))

        unbound : (v : Variable) → Contains (flat_map variables r) v → (Contains (pair_variables (problem r u e)) v → ⊥) → (o : Option Term) → value_of d v ≡ o → value_of d v ≡ None
        unbound v c other None b = b
        unbound v c other (Some t) b =
            elim (bound_own r sound u is e f.listed d member v t b) [
              | inl there ↦ absurd (other there)
              | inr high ↦ absurd (let less : v.num < next_of r e = low v c in omega (arith, less, high))
            ]

        free_fits : (v w : Variable) → Contains (flat_map variables r) v → (Contains (pair_variables (problem r u e)) v → ⊥) → Contains (variables (image d v)) w →
            IsAtOrBelow th.sig.sorts (least_sort (image g w)) w.sort
        free_fits v w c other of =
            let stays : image d v ≡ Var v = ap (λ o. unwrap_or o (Var v)) (unbound v c other (value_of d v) refl) in
            let same : v ≡ w = only_one v w (subst (λ t. Contains (variables t) w) stays of) in
            let value : image g v ≡ image s v = factor.old v (low v c) ∙ joint_own v c in
            subst (λ (x : Variable). IsAtOrBelow th.sig.sorts (least_sort (image g x)) x.sort) same
            (subst (λ t. IsAtOrBelow th.sig.sorts (least_sort t) v.sort) (sym value) (serves.sorts v c))

        value_fits : (v w : Variable) → Contains (flat_map variables r) v → Contains (variables (image d v)) w → IsAtOrBelow th.sig.sorts (least_sort (image g w)) w.sort
        value_fits v w c of =
            elim (has_var (pair_variables (problem r u e)) v) as (λ b. has_var (pair_variables (problem r u e)) v ≡ b → IsAtOrBelow th.sig.sorts (least_sort (image g w)) w.sort) [
              | true ↦ λ b. factor.sorts v w (has_var_is (pair_variables (problem r u e)) v b) of
              | false ↦ λ b. free_fits v w c (has_no_var (pair_variables (problem r u e)) v b) of
            ] refl

        instance_fits : (t : Term) → IsWithin t → FitsSorts th.sig.sorts (variables (applied d t)) g
        instance_fits t within w c = let from = applied_variables d w t c in value_fits from.var w (within from.var from.occurs) from.of

        canonical_fits : (t : Term) → IsWithin t → FitsSorts th.sig.sorts (variables (canonical (applied d t))) g
        canonical_fits t within w c = instance_fits t within w (canonical_variables (applied d t) w c)

        canonical_instance : (t : Term) → IsWithin t → Same (applied g (canonical (applied d t))) (applied s t)
        canonical_instance t within =
            through (applied g (canonical (applied d t))) (applied g (applied d t)) (applied s t) (same_applied g (same_sym (canonical_same (applied d t)))) (instance_same t within)

        -- ## What comes of the row

        value_kept : (t : Term) → Contains (take (length vs) r) t → IsNormal th (canonical (applied d t))
        value_kept t c =
            let there = normal_of_instance th g (canonical (applied d t)) (canonical_fits t (taken_within t c)) in
            there (normal_same th (applied s t) (applied g (canonical (applied d t))) (same_sym (canonical_instance t (taken_within t c))) (value_normal t c))

        all_normal : are_normal th (values_under (length vs) r d) ≡ true
        all_normal =
            all_pass (is_normal_by (normalized th)) (values_under (length vs) r d)
            (λ x c.
            let of = of_mapped (λ t. canonical (applied d t)) (take (length vs) r) x c in
            subst (λ y. is_normal_by (normalized th) y ≡ true) (sym of.2)
            (is_normal_own (normalized th) (canonical (applied d of.0)) (normal_form_is th can.cancel (canonical (applied d of.0)) (value_kept of.0 of.1))))

        abbrev forms : List Term
        forms = map (λ t. normalized th (canonical (applied d t))) (drop (length vs) r)

        abbrev raw : Row
        raw = values_under (length vs) r d ++ forms

        abbrev new : Row
        new = result_of th (length vs) r d

        back : Covers th.sig.sorts new raw
        back = record { by_ = unnumbering raw; sorts = λ v c. inl (unnumbered_sort 0 (variables_once raw) v); equal = renumbered_cover raw }

        front : length (values_under (length vs) r d) ≡ length vs
        front = length_map (λ t. canonical (applied d t)) (take (length vs) r) ∙ ap length (row_values th vs terms r sound) ∙ length_map (λ v. image (bound vs r) v) vs

        raw_fits : FitsSorts th.sig.sorts (flat_map variables raw) g
        raw_fits y c =
            let at = of_member raw y c in
            elim (Contains-append_cases (values_under (length vs) r d) forms at.0 at.1) [
              | inl a ↦
                  let of = of_mapped (λ t. canonical (applied d t)) (take (length vs) r) at.0 a in
                  canonical_fits of.0 (taken_within of.0 of.1) y (subst (λ t. Contains (variables t) y) of.2 at.2)
              | inr b ↦
                  let of = of_mapped (λ t. normalized th (canonical (applied d t))) (drop (length vs) r) at.0 b in
                  canonical_fits of.0 (dropped_within of.0 of.1) y
                  (form_variables th can.cancel (canonical (applied d of.0)) y (subst (λ t. Contains (variables t) y) of.2 at.2))
            ]

        all_instances : (ts : List Term) → ((t : Term) → Contains ts t → IsWithin t) → SameAll (map (applied g) (map (λ t. canonical (applied d t)) ts)) (map (applied s) ts)
        all_instances [] within = nothing
        all_instances (t ∷ ts) within =
            first (applied g (canonical (applied d t))) (applied s t) (map (applied g) (map (λ x. canonical (applied d x)) ts)) (map (applied s) ts)
            (canonical_instance t (within t (here t ts))) (all_instances ts (λ x c. within x (behind t x ts c)))

        values_same : SameAll (map (applied g) (values_under (length vs) r d)) (map (applied s) (take (length vs) r))
        values_same = all_instances (take (length vs) r) taken_within

        raw_serves : Serves th.sig.sorts (length vs) values raw g
        raw_serves = record {
          sorts = raw_fits;
          equal = subst (λ ts. SameAll (map (applied g) ts) values) (sym (take_front (length vs) (values_under (length vs) r d) forms front)) (same_all_trans values_same serves.equal);
        }

        -- the terms' instances weigh less
        form_weighs : (t : Term) → Contains (drop (length vs) r) t → symbol_count (applied g (normalized th (canonical (applied d t)))) ≤ symbol_count (applied s t)
        form_weighs t c =
            let one = form_upto th can.cancel g (canonical (applied d t)) (canonical_fits t (dropped_within t c)) in
            let two = same_count (canonical_instance t (dropped_within t c)) in
            omega (arith, one, two)

        form_lighter : symbol_count (applied g (normalized th (canonical (applied d is.term)))) < symbol_count (applied s is.term)
        form_lighter =
            let t = is.term in
            let within = dropped_within t is.listed in
            let one = form_less th can.cancel g (canonical (applied d t)) (canonical_fits t within)
            (λ form. term_reducible r sound u is e f.listed d member (normal_same th (canonical (applied d t)) (applied d t) (same_sym (canonical_same (applied d t))) form)) in
            let two = same_count (canonical_instance t within) in
            omega (arith, one, two)

        forms_lighter : total symbol_count (map (applied g) forms) < total symbol_count (map (applied s) (drop (length vs) r))
        forms_lighter =
            subst (λ ts. total symbol_count ts < total symbol_count (map (applied s) (drop (length vs) r)))
            (sym (map_map (λ t. normalized th (canonical (applied d t))) (applied g) (drop (length vs) r)))
            (total_less symbol_count (λ t. applied g (normalized th (canonical (applied d t)))) (applied s) (drop (length vs) r) is.term form_weighs is.listed form_lighter)

        raw_lighter : size symbol_count raw g < size symbol_count r s
        raw_lighter =
            let left : size symbol_count raw g ≡ total symbol_count (map (applied g) (values_under (length vs) r d)) + total symbol_count (map (applied g) forms) =
            ap (total symbol_count) (map-append (applied g) (values_under (length vs) r d) forms)
            ∙ total_append symbol_count (map (applied g) (values_under (length vs) r d)) (map (applied g) forms) in
            let right : size symbol_count r s ≡ total symbol_count (map (applied s) (take (length vs) r)) + total symbol_count (map (applied s) (drop (length vs) r)) =
            ap (λ ts. total symbol_count (map (applied s) ts)) (sym (take-append-drop (length vs) r)) ∙ ap (total symbol_count) (map-append (applied s) (take (length vs) r) (drop (length vs) r))
            ∙ total_append symbol_count (map (applied s) (take (length vs) r)) (map (applied s) (drop (length vs) r)) in
            let even = same_total symbol_count (λ t x same. same_count same) values_same in
            let less = forms_lighter in
            omega (arith, left, right, even, less)

        stepped : Steps symbol_count th (length vs) (RowResult th (length vs)) values r s
        stepped = record {
          row = new;
          result = (u, f.own, (e, f.listed, (d, member, (all_normal, refl))));
          by_ = composed back.by_ g;
          serves = covers_serves th.sig.sorts (length vs) values new raw back g raw_serves;
          smaller = (
              let even = covers_size symbol_count (λ t x same. same_count same) th.sig.sorts new raw back g in
              let less = raw_lighter in
              omega (arith, even, less)
              );
        }

    -- the lifting lemma
    pub lift : Settles th (length vs) values r s ⊎ Steps symbol_count th (length vs) (RowResult th (length vs)) values r s
    lift =
        elim (settled_or_found th can.cancel (length vs) r s sound.inside value_normal (drop (length vs) r) (λ t c. c)) [
          | inl all ↦ inl (record { serves = serves; normal = all })
          | inr found ↦ let at = factored found in inr (stepped found at.0 at.1 at.2)
        ]
