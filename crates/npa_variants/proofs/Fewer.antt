-- What comes of a sound row has fewer own applications than the row.
use Rattle.std.proofs.Common.{◌≡◌, ◌<◌, ◌≤◌, Bool, true, false, not, List, [], ◌∷◌, ◌++◌, length, map, take, drop, refl, sym, ◌∙◌, ap, subst, arith}
use Rattle.std.specs.Prelude.{Contains}
use Rattle.std.specs.List.{flat_map}
use Rattle.npa_term.specs.declared.term.Var.{Var as Variable}
use Rattle.npa_term.specs.declared.term.Term.{Term}
use Rattle.npa_term.specs.Bound.{applied}
use Rattle.npa_term.specs.Canonical.{canonical}
use Rattle.npa_term.specs.Numbering.{numbering, renumbered}
use Rattle.npa_term.specs.Parts.{IsPart, image}
use Rattle.npa_term.specs.Same.{Same, through}
use Rattle.npa_term.specs.Variables.{variables}
use Rattle.npa_term.proofs.CanonicalLaws.{canonical_same}
use Rattle.npa_term.proofs.Renumbered.{member_variable, of_member}
use Rattle.npa_term.proofs.SameLaws.{same_sym, same_applied}
use Rattle.npa_sig.specs.Sorting.{well_sorted}
use Rattle.npa_sig.specs.declared.protocol.Equation.{Equation}
use Rattle.npa_rewrite.specs.declared.theory.Theory.{Theory}
use Rattle.npa_rewrite.specs.Innermost.{normalized}
use Rattle.npa_rewrite.specs.Rewriting.{IsNormal}
use Rattle.npa_rewrite.proofs.InstanceParts.{here, behind, image_part, part_applied, part_through, same_part}
use Rattle.npa_rewrite.proofs.Parts.{normal_part}
use Rattle.npa_rewrite.proofs.Under.{normal_same}
use Rattle.npa_variants.specs.Rows.{Row, is_among, is_application, own_parts, parts}
use Rattle.npa_variants.specs.Search.{are_normal, result_of, values_under}
use Rattle.npa_variants.specs.Variants.{bound}
use Rattle.npa_variants.proofs.Counting.{count, count_all, count_more, count_none, count_total, form_fewer, form_less, instance_fewer, same_counts}
use Rattle.npa_variants.proofs.Levels.{RowResult, unifiers_of}
use Rattle.npa_variants.proofs.Lifting.{term_reducible}
use Rattle.npa_variants.proofs.Listing.{IsOwn, among, in_parts, is_among_of, of_parts, own_is}
use Rattle.npa_variants.proofs.Measures.{total_less}
use Rattle.npa_variants.proofs.Members.{dropped_map, flat_member, mapped_member, of_filtered, of_flat, taken_map}
use Rattle.npa_variants.proofs.Sound.{IsSound, drop_front, length_map, of_value, row_values, take_front}
use Rattle.npa_variants.proofs.Sounding.{sound_raw}
use Rattle.npa_variants.proofs.Theories.{IsNarrowing}

-- A term equals a part of one of these values.
pub record IsAmong (values : List Term) (u : Term) : Type 0 where
  pub value : Term
  pub listed : Contains values value
  pub part : Term
  pub there : IsPart part value
  pub same : Same u part

pub among_is : (values : List Term) (u : Term) → is_among (flat_map parts values) u ≡ true → IsAmong values u
among_is values u e =
    let at = among (flat_map parts values) u e in
    let of = of_flat parts values at.0 at.1 in
    record { value = of.0; listed = of.1; part = at.0; there = of_parts of.0 at.0 of.2; same = at.2 }

pub is_among_there : (values : List Term) (u : Term) → IsAmong values u → is_among (flat_map parts values) u ≡ true
is_among_there values u at =
    is_among_of (flat_map parts values) u at.part (flat_member parts values at.value at.part at.listed (in_parts at.value at.part at.there)) at.same

-- the test that an own application passes
abbrev pub is_free : List Term → Term → Bool
is_free values u = not (is_among (flat_map parts values) u)

free_respects : (values : List Term) (t u : Term) → Same t u → is_free values t ≡ is_free values u
free_respects values t u same = ap not (alike (is_among (flat_map parts values) t) (is_among (flat_map parts values) u) (λ e. moves t u same e) (λ e. moves u t (same_sym same) e))
  where
    moves : (t u : Term) → Same t u → is_among (flat_map parts values) t ≡ true → is_among (flat_map parts values) u ≡ true
    moves t u same e =
        let at = among_is values t e in
        is_among_there values u (record { value = at.value; listed = at.listed; part = at.part; there = at.there; same = through u t at.part (same_sym same) at.same })

    alike : (a b : Bool) → (a ≡ true → b ≡ true) → (b ≡ true → a ≡ true) → a ≡ b
    alike true b f g = sym (f refl)
    alike false true f g = g refl
    alike false false f g = refl

not_free : (b : Bool) → b ≡ true → not b ≡ false
not_free true e = refl
not_free false e = cc

free_of : (b c : Bool) → (b ≡ true → c ≡ true) → not c ≡ true → not b ≡ true
free_of true c f e = absurd (let is : c ≡ true = f refl in let isnt : not true ≡ true = subst (λ x. not x ≡ true) is e in let no_way : ⊥ = cc in no_way)
free_of false c f e = refl

-- ## Instances

module _ (values : List Term) (d : List (Variable × Term)) where
  abbrev moved : List Term
  moved = map (λ t. canonical (applied d t)) values

  -- a part of an instance of a value is a part of a new value
  part_moved : (a x : Term) → Contains values a → IsPart x (applied d a) → IsAmong moved x
  part_moved a x c part =
      let there = same_part (canonical_same (applied d a)) part in
      record {
        value = canonical (applied d a);
        listed = mapped_member (λ t. canonical (applied d t)) values a c;
        part = there.part;
        there = there.there;
        same = there.same;
      }

  among_moved : (u : Term) → IsAmong values u → IsAmong moved (applied d u)
  among_moved u at =
      let there = part_moved at.value (applied d at.part) at.listed (part_applied d at.there) in
      record { value = there.value; listed = there.listed; part = there.part; there = there.there; same = through (applied d u) (applied d at.part) there.part (same_applied d at.same) there.same }

  free_back : (t : Term) → is_free moved (applied d t) ≡ true → is_free values t ≡ true
  free_back t e =
      free_of (is_among (flat_map parts values) t) (is_among (flat_map parts moved) (applied d t))
      (λ is. is_among_there moved (applied d t) (among_moved t (among_is values t is))) e

  image_none : (y : Variable) → Contains (flat_map variables values) y → count (is_free moved) (image d y) ≡ 0
  image_none y c =
      let at = of_member values y c in
      count_none (is_free moved) (image d y) (λ x i.
      let part : IsPart x (image d y) = of_parts (image d y) x (of_filtered is_application (parts (image d y)) x i).0 in
      not_free (is_among (flat_map parts moved) x) (is_among_there moved x (part_moved at.0 x at.1 (part_through part (image_part d y at.0 at.2)))))

  -- terms over the variables of the values have no more own applications under a substitution
  pub moved_fewer : (ts : List Term) → ((y : Variable) → Contains (flat_map variables ts) y → Contains (flat_map variables values) y) →
      count_all (is_free moved) (map (λ t. canonical (applied d t)) ts) ≤ count_all (is_free values) ts
  moved_fewer [] within = omega arith
  moved_fewer (t ∷ ts) within =
      let one = instance_fewer (is_free values) (is_free moved) d free_back (λ y. Contains (flat_map variables values) y) image_none t (λ y c. within y (member_variable (t ∷ ts) t y (here t ts) c)) in
      let rest = moved_fewer ts (λ y c. let of = of_member ts y c in within y (member_variable (t ∷ ts) of.0 y (behind t of.0 ts of.1) of.2)) in
      let two = count_more (is_free moved) (canonical (applied d t)) (map (λ x. canonical (applied d x)) ts) in
      let three = count_more (is_free values) t ts in
      let four = same_counts (is_free moved) (free_respects moved) (canonical_same (applied d t)) in
      omega (arith, one, rest, two, three, four)

-- ## What comes of a row

module _ (th : Theory) (vs : List Variable) (terms : List Term) (can : IsNarrowing th) (sorted : (t : Term) → Contains terms t → well_sorted th.sig t ≡ true)
    (own : (v : Variable) → Contains (flat_map variables terms) v → Contains vs v) where
  free_passes : (values : List Term) → ((t : Term) → Contains values t → IsNormal th t) → (t : Term) → (IsNormal th t → ⊥) → is_free values t ≡ true
  free_passes values normal t never = by (is_among (flat_map parts values) t) refl
    where
      by : (b : Bool) → is_among (flat_map parts values) t ≡ b → not b ≡ true
      by false e = refl
      by true e =
          let at = among_is values t e in
          absurd (never (normal_same th at.part t (same_sym at.same) (normal_part th at.there (normal at.value at.listed))))

  module _ (r : Row) (sound : IsSound th vs terms r) (u : Term) (is : IsOwn (length vs) r u) (e : Equation) (listed : Contains th.equations e)
      (d : List (Variable × Term)) (member : Contains (unifiers_of th r u e) d) (normal : are_normal th (values_under (length vs) r d) ≡ true) where
    abbrev values : List Term
    values = values_under (length vs) r d

    abbrev forms : List Term
    forms = map (λ t. normalized th (canonical (applied d t))) (drop (length vs) r)

    abbrev raw : Row
    raw = values ++ forms

    front : length values ≡ length vs
    front = length_map (λ t. canonical (applied d t)) (take (length vs) r) ∙ ap length (row_values th vs terms r sound) ∙ length_map (λ v. image (bound vs r) v) vs

    taken : take (length vs) raw ≡ values
    taken = take_front (length vs) values forms front

    dropped : drop (length vs) raw ≡ forms
    dropped = drop_front (length vs) values forms front

    raw_is : IsSound th vs terms raw
    raw_is = sound_raw th vs terms can sorted own r sound u is e listed d member normal

    values_normal : (t : Term) → Contains values t → IsNormal th t
    values_normal t c =
        let of = of_value th vs terms raw raw_is t (subst (λ ts. Contains ts t) (sym taken) c) in
        subst (IsNormal th) (sym of.2) (raw_is.normal of.0 of.1)

    term_never : IsNormal th (canonical (applied d is.term)) → ⊥
    term_never form =
        term_reducible th vs terms can sorted own r sound u is e listed d member
        (normal_same th (canonical (applied d is.term)) (applied d is.term) (same_sym (canonical_same (applied d is.term))) form)

    forms_fewer : count_all (is_free values) forms < count_all (is_free values) (map (λ t. canonical (applied d t)) (drop (length vs) r))
    forms_fewer =
        let left = count_total (is_free values) forms in
        let right = count_total (is_free values) (map (λ t. canonical (applied d t)) (drop (length vs) r)) in
        let less =
        total_less (count (is_free values)) (λ t. normalized th (canonical (applied d t))) (λ t. canonical (applied d t)) (drop (length vs) r) is.term
        (λ t c. form_fewer (is_free values) (free_respects values) th can.cancel (free_passes values values_normal) (canonical (applied d t)))
        is.listed (form_less (is_free values) (free_respects values) th can.cancel (free_passes values values_normal) (canonical (applied d is.term)) term_never) in
        omega (arith, left, right, less)

    raw_fewer : count_all (is_free values) forms < length (own_parts (length vs) r)
    raw_fewer =
        let one = forms_fewer in
        let two = moved_fewer (take (length vs) r) d (drop (length vs) r) sound.inside in
        omega (arith, one, two)

    new_fewer : length (own_parts (length vs) (renumbered raw)) ≤ count_all (is_free values) forms
    new_fewer =
        let within : (y : Variable) → Contains (flat_map variables forms) y → Contains (flat_map variables values) y =
        λ y c. subst (λ ts. Contains (flat_map variables ts) y) taken (raw_is.inside y (subst (λ ts. Contains (flat_map variables ts) y) (sym dropped) c)) in
        let first : take (length vs) (renumbered raw) ≡ map (λ t. canonical (applied (numbering raw) t)) values =
        taken_map (λ t. canonical (applied (numbering raw) t)) (length vs) raw ∙ ap (map (λ t. canonical (applied (numbering raw) t))) taken in
        let second : drop (length vs) (renumbered raw) ≡ map (λ t. canonical (applied (numbering raw) t)) forms =
        dropped_map (λ t. canonical (applied (numbering raw) t)) (length vs) raw ∙ ap (map (λ t. canonical (applied (numbering raw) t))) dropped in
        let is_count : length (own_parts (length vs) (renumbered raw)) ≡
        count_all (is_free (map (λ t. canonical (applied (numbering raw) t)) values)) (map (λ t. canonical (applied (numbering raw) t)) forms) =
        ap (λ ts. count_all (is_free ts) (drop (length vs) (renumbered raw))) first
        ∙ ap (count_all (is_free (map (λ t. canonical (applied (numbering raw) t)) values))) second in
        let upto = moved_fewer values (numbering raw) forms within in
        omega (arith, is_count, upto)

    result_fewer : length (own_parts (length vs) (result_of th (length vs) r d)) < length (own_parts (length vs) r)
    result_fewer = let one = raw_fewer in let two = new_fewer in omega (arith, one, two)

  pub fewer : (r w : Row) → IsSound th vs terms r → RowResult th (length vs) r w → length (own_parts (length vs) w) < length (own_parts (length vs) r)
  fewer r w sound (u, c, (e, listed, (d, member, (normal, is)))) =
      subst (λ x. length (own_parts (length vs) x) < length (own_parts (length vs) r)) (sym is) (result_fewer r sound u (own_is (length vs) r u c) e listed d member normal)
