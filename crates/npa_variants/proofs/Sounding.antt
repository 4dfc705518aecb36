-- What comes of a sound row is sound.
use Rattle.std.proofs.Common.{◌≡◌, ℕ, true, List, [], ◌++◌, length, map, take, drop, zip, inl, inr, refl, sym, ◌∙◌, ap, subst}
use Rattle.std.specs.Prelude.{Contains, unwrap_or}
use Rattle.std.specs.List.{flat_map}
use Rattle.npa_sorts.specs.Subsorts.{IsAtOrBelow}
use Rattle.npa_term.specs.declared.term.Var.{Var as Variable}
use Rattle.npa_term.specs.declared.term.Term.{Term, Var, Name}
use Rattle.npa_term.specs.Bound.{applied}
use Rattle.npa_term.specs.Canonical.{canonical}
use Rattle.npa_term.specs.Numbering.{anew, numbering, renumbered, unnumbering, variables_once}
use Rattle.npa_term.specs.Parts.{IsPart, image, least_sort}
use Rattle.npa_term.specs.Variables.{renamed, raised_var, variables}
use Rattle.npa_term.proofs.CanonicalLaws.{canonical-canonical, canonical_same}
use Rattle.npa_term.proofs.Numbered.{is_numbered, numbered_sort, once_has, unnumbered_sort}
use Rattle.npa_term.proofs.Renumbered.{of_member, taken_back}
use Rattle.npa_term.proofs.SameLaws.{same_sym}
use Rattle.npa_sig.specs.Sorting.{well_sorted}
use Rattle.npa_sig.specs.WellFormed.{IsNameless}
use Rattle.npa_sig.specs.declared.protocol.Equation.{Equation}
use Rattle.npa_rewrite.specs.declared.theory.Theory.{Theory}
use Rattle.npa_rewrite.specs.Innermost.{normalized}
use Rattle.npa_rewrite.specs.Normal.{is_normal_by}
use Rattle.npa_rewrite.specs.Rewriting.{IsNormal}
use Rattle.npa_rewrite.proofs.InstanceParts.{part_through, part_variables}
use Rattle.npa_rewrite.proofs.InstanceSteps.{normal_of_instance}
use Rattle.npa_rewrite.proofs.Normality.{normal_is}
use Rattle.npa_rewrite.proofs.Normalized.{own_form}
use Rattle.npa_rewrite.proofs.Under.{normal_same}
use Rattle.npa_variants.specs.Rows.{Row}
use Rattle.npa_variants.specs.Search.{are_normal, result_of, values_under}
use Rattle.npa_variants.specs.Variants.{bound}
use Rattle.npa_variants.proofs.Forms.{form_normal, instance_names, instance_sorted, normal_form_is}
use Rattle.npa_variants.proofs.Levels.{RowResult, unifiers_of}
use Rattle.npa_variants.proofs.Listing.{IsOwn, all_member, own_is, part_sorted}
use Rattle.npa_variants.proofs.Members.{dropped_map, mapped_member, of_dropped, of_mapped, of_taken, taken_map, taken_or_dropped}
use Rattle.npa_variants.proofs.Sound.{HasName, IsSound, drop_front, dropped_variable, form_is_sorted, image_zip, length_map, map_equal, of_value, renamed_instance, row_values, sound_instance, take_front}
use Rattle.npa_variants.proofs.Theories.{IsNarrowing}
use Rattle.npa_variants.proofs.Unifying.{base_of, lower_sorted, unifier_fits, unifier_names, unifier_sorted, var_nameless, variable_sorted}

-- renamed terms are well sorted and without names where the terms are

module _ (th : Theory) (can : IsNarrowing th) (base : ℕ) (t : Term) where
  abbrev pub raising : List (Variable × Term)
  raising = zip (variables t) (map (λ v. Var (raised_var base v)) (variables t))

  pub raising_is : (v : Variable) → Contains (variables t) v → image raising v ≡ Var (raised_var base v)
  raising_is v c = image_zip (λ w. Var (raised_var base w)) (variables t) v c

  pub renamed_sorted : well_sorted th.sig t ≡ true → well_sorted th.sig (renamed base t) ≡ true
  renamed_sorted sorted =
      subst (λ u. well_sorted th.sig u ≡ true) (renamed_instance base t)
      (instance_sorted th.sig raising t
      (λ v c. subst (λ u. well_sorted th.sig u ≡ true) (sym (raising_is v c)) (lower_sorted th can v (raised_var base v) (variable_sorted th can t v c sorted) (inl refl)))
      (λ v c. subst (λ u. IsAtOrBelow th.sig.sorts (least_sort u) v.sort) (sym (raising_is v c)) (inl refl)) sorted)

  pub renamed_nameless : IsNameless t → IsNameless (renamed base t)
  renamed_nameless nameless n part =
      elim (instance_names raising n t (subst (IsPart (Name n)) (sym (renamed_instance base t)) part)) [
        | inl own ↦ nameless n own
        | inr of ↦ var_nameless n (raised_var base of.var) of.there (raising_is of.var of.occurs)
      ]

module _ (th : Theory) (vs : List Variable) (terms : List Term) (can : IsNarrowing th) (sorted : (t : Term) → Contains terms t → well_sorted th.sig t ≡ true)
    (own : (v : Variable) → Contains (flat_map variables terms) v → Contains vs v) where
  -- the members of a sound row are well sorted, and so are its variables
  pub member_sorted : (r : Row) → IsSound th vs terms r → (t : Term) → Contains r t → well_sorted th.sig t ≡ true
  member_sorted r sound t c =
      elim (taken_or_dropped (length vs) r t c) [
        | inl a ↦ let of = of_value th vs terms r sound t a in subst (λ u. well_sorted th.sig u ≡ true) (sym of.2) (sound.sorted of.0 of.1)
        | inr b ↦ form_is_sorted th vs terms can sorted own r sound t b
      ]

  pub row_sorted : (r : Row) → IsSound th vs terms r → (v : Variable) → Contains (flat_map variables r) v → well_sorted th.sig (Var v) ≡ true
  row_sorted r sound v c = let at = of_member r v c in variable_sorted th can at.0 v at.2 (member_sorted r sound at.0 at.1)

  -- numbered anew
  module _ (r : Row) (sound : IsSound th vs terms r) where
    number_fits : (v : Variable) → IsAtOrBelow th.sig.sorts (least_sort (image (numbering r) v)) v.sort
    number_fits v = inl (numbered_sort 0 (variables_once r) v)

    number_is : (v : Variable) → Contains (flat_map variables r) v → (n : ℕ) × (image (numbering r) v ≡ Var (anew n v))
    number_is v c =
        let n = is_numbered 0 (variables_once r) v (once_has [] (flat_map variables r) v c) in
        (n.number, ap (λ o. unwrap_or o (Var v)) n.bound)

    -- a normal member is normal again
    number_normal : (t : Term) → Contains r t → IsNormal th t → IsNormal th (applied (numbering r) t)
    number_normal t c normal =
        normal_of_instance th (unnumbering r) (applied (numbering r) t) (λ v d. inl (unnumbered_sort 0 (variables_once r) v))
        (subst (IsNormal th) (sym (taken_back r t c)) normal)

    taken_normal : (t : Term) → Contains (take (length vs) r) t → IsNormal th t
    taken_normal t c = let of = of_value th vs terms r sound t c in subst (IsNormal th) (sym of.2) (sound.normal of.0 of.1)

    dropped_normal : (t : Term) → Contains (drop (length vs) r) t → IsNormal th t
    dropped_normal t c =
        let of = of_mapped (λ u. normalized th (applied (bound vs r) u)) terms t (subst (λ ts. Contains ts t) sound.forms c) in
        subst (IsNormal th) (sym of.2) (form_normal th can.cancel (applied (bound vs r) of.0))

    number_form : (t : Term) → Contains (drop (length vs) r) t → canonical (applied (numbering r) t) ≡ normalized th (canonical (applied (numbering r) t))
    number_form t c =
        let u = applied (numbering r) t in
        let normal : IsNormal th (canonical u) = normal_same th u (canonical u) (canonical_same u) (number_normal t (of_dropped (length vs) r t c) (dropped_normal t c)) in
        sym (normal_form_is th can.cancel (canonical u) normal ∙ canonical-canonical u)

    pub sound_renumbered : IsSound th vs terms (renumbered r)
    sound_renumbered =
        sound_instance th vs terms can sorted own r (renumbered r) sound (numbering r)
        (taken_map (λ t. canonical (applied (numbering r) t)) (length vs) r)
        (dropped_map (λ t. canonical (applied (numbering r) t)) (length vs) r
        ∙ map_equal (λ t. canonical (applied (numbering r) t)) (λ t. normalized th (canonical (applied (numbering r) t))) (drop (length vs) r) number_form)
        (λ v c. number_fits v)
        (λ v c. let n = number_is v c in subst (λ t. well_sorted th.sig t ≡ true) (sym n.1) (lower_sorted th can v (anew n.0 v) (row_sorted r sound v c) (inl refl)))
        (λ t c. number_normal t (of_taken (length vs) r t c) (taken_normal t c))
        (λ v c n part. let at = number_is v c in absurd (var_nameless n (anew at.0 v) part at.1))

  -- under a unifier of an own application
  module _ (r : Row) (sound : IsSound th vs terms r) (u : Term) (is : IsOwn (length vs) r u) (e : Equation) (listed : Contains th.equations e)
      (d : List (Variable × Term)) (member : Contains (unifiers_of th r u e) d) (normal : are_normal th (values_under (length vs) r d) ≡ true) where
    abbrev raw : Row
    raw = values_under (length vs) r d ++ map (λ t. normalized th (canonical (applied d t))) (drop (length vs) r)

    own_variables : (v : Variable) → Contains (variables u) v → Contains (flat_map variables r) v
    own_variables v c = dropped_variable th vs terms r is.term v is.listed (part_variables v is.there c)

    own_sorted : well_sorted th.sig u ≡ true
    own_sorted = part_sorted th.sig is.there (form_is_sorted th vs terms can sorted own r sound is.term is.listed)

    left_sorted : well_sorted th.sig (renamed (base_of r) e.left) ≡ true
    left_sorted = renamed_sorted th can (base_of r) e.left (can.sorted e listed)

    left_nameless : IsNameless (renamed (base_of r) e.left)
    left_nameless = renamed_nameless th can (base_of r) e.left (can.nameless e listed)

    front : length (values_under (length vs) r d) ≡ length vs
    front = length_map (λ t. canonical (applied d t)) (take (length vs) r) ∙ ap length (row_values th vs terms r sound) ∙ length_map (image (bound vs r)) vs

    value_normal : (t : Term) → Contains (take (length vs) r) t → IsNormal th (applied d t)
    value_normal t c =
        let v = canonical (applied d t) in
        let test : is_normal_by (normalized th) v ≡ true =
        all_member (is_normal_by (normalized th)) (values_under (length vs) r d) v normal (mapped_member (λ x. canonical (applied d x)) (take (length vs) r) t c) in
        normal_same th v (applied d t) (same_sym (canonical_same (applied d t))) ((own_form th v can.cancel).1 (normal_is (normalized th) v test))

    unifier_named : (v : Variable) → (n : ℕ) → IsPart (Name n) (image d v) → HasName terms n
    unifier_named v n part =
        sound.nameless is.term (of_dropped (length vs) r is.term is.listed) n
        (part_through (unifier_names th can r u e own_variables listed own_sorted left_sorted left_nameless d member v n part) is.there)

    pub sound_raw : IsSound th vs terms raw
    sound_raw =
        sound_instance th vs terms can sorted own r raw sound d
        (take_front (length vs) (values_under (length vs) r d) (map (λ t. normalized th (canonical (applied d t))) (drop (length vs) r)) front)
        (drop_front (length vs) (values_under (length vs) r d) (map (λ t. normalized th (canonical (applied d t))) (drop (length vs) r)) front)
        (λ v c. unifier_fits th can r u e own_variables listed own_sorted left_sorted left_nameless d member v)
        (λ v c. unifier_sorted th can r u e own_variables listed own_sorted left_sorted left_nameless d member v (row_sorted r sound v c))
        value_normal (λ v c. unifier_named v)

    pub sound_under : IsSound th vs terms (result_of th (length vs) r d)
    sound_under = sound_renumbered raw sound_raw

  pub sound_result : (r w : Row) → IsSound th vs terms r → RowResult th (length vs) r w → IsSound th vs terms w
  sound_result r w sound (u, c, (e, listed, (d, member, (normal, is)))) =
      subst (IsSound th vs terms) (sym is) (sound_under r sound u (own_is (length vs) r u c) e listed d member normal)
