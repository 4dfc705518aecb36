-- The rows that the search keeps are variants, and each normal substitution goes through one of them.
use Rattle.std.proofs.Common.{◌≡◌, ℕ, true, Ok, List, [], ◌∷◌, ◌++◌, length, map, take, drop, zip, inl, inr, refl, sym, ◌∙◌, ap, subst}
use Rattle.std.specs.Prelude.{Contains}
use Rattle.std.specs.List.{flat_map}
use Rattle.std.proofs.lemmas.List.{take-append-drop}
use Rattle.npa_term.specs.declared.term.Var.{Var as Variable}
use Rattle.npa_term.specs.declared.term.Term.{Term, Var}
use Rattle.npa_term.specs.Bound.{applied}
use Rattle.npa_term.specs.Canonical.{canonical}
use Rattle.npa_term.specs.Numbering.{variables_once}
use Rattle.npa_term.specs.Parts.{image}
use Rattle.npa_term.specs.Same.{Same, SameAll}
use Rattle.npa_term.specs.Symbols.{symbol_count}
use Rattle.npa_term.specs.Variables.{variables}
use Rattle.npa_term.proofs.Renumbered.{member_variable, of_member}
use Rattle.npa_term.proofs.SameLaws.{same_all_itself, same_count, same_sym}
use Rattle.npa_sig.specs.Sorting.{well_sorted}
use Rattle.npa_sig.specs.Substitutions.{RespectsSorts}
use Rattle.npa_rewrite.specs.declared.theory.Theory.{Theory}
use Rattle.npa_rewrite.specs.Innermost.{normalized}
use Rattle.npa_rewrite.specs.Rewriting.{IsNormal, IsNormalFormOf}
use Rattle.npa_rewrite.proofs.FormLaws.{form_same}
use Rattle.npa_rewrite.proofs.InstanceParts.{here, behind, image_part}
use Rattle.npa_rewrite.proofs.InstanceSteps.{form_of_instance}
use Rattle.npa_rewrite.proofs.Instances.{applied_variables}
use Rattle.npa_rewrite.proofs.Normalized.{normalized_is}
use Rattle.npa_rewrite.proofs.Parts.{normal_part}
use Rattle.npa_rewrite.proofs.Sorting.{image_sorted, same_sorted}
use Rattle.npa_rewrite.proofs.Under.{normal_same}
use Rattle.npa_variants.specs.declared.variant.Variant.{Variant}
use Rattle.npa_variants.specs.Rows.{Row}
use Rattle.npa_variants.specs.Search.{start_row, variant_rows}
use Rattle.npa_variants.specs.Variants.{IsThrough, IsVariant, Pairwise, bound, row_of, variant_of, variant_variables}
use Rattle.npa_variants.proofs.Closed.{IsClosed, closed_complete}
use Rattle.npa_variants.proofs.Covers.{Serves, Settles}
use Rattle.npa_variants.proofs.Fewer.{fewer}
use Rattle.npa_variants.proofs.FirstCovers.{same_all_at, start_variables}
use Rattle.npa_variants.proofs.Forms.{instance_sorted, normal_form_is}
use Rattle.npa_variants.proofs.Levels.{RowResult}
use Rattle.npa_variants.proofs.Lifting.{lift}
use Rattle.npa_variants.proofs.Members.{mapped_member, of_mapped, same_all_member, taken_or_dropped}
use Rattle.npa_variants.proofs.Searched.{variants_closed}
use Rattle.npa_variants.proofs.Sound.{IsSound, agree, map_map, row_values, taken_variable, under_sorted, value_listed}
use Rattle.npa_variants.proofs.Sounding.{sound_result}
use Rattle.npa_variants.proofs.Starting.{sound_start, start_taken}
use Rattle.npa_variants.proofs.Theories.{IsNarrowing}

-- related to each member's own
pub pairwise_map : (R : Term → Term → Type 0) (f : Term → Term) (ts : List Term) → ((t : Term) → Contains ts t → R t (f t)) → Pairwise R ts (map f ts)
pairwise_map R f [] each = tt
pairwise_map R f (t ∷ ts) each = (each t (here t ts), pairwise_map R f ts (λ u c. each u (behind t u ts c)))

-- the two sides of a substitution
pub values_of_zip : (vs : List Variable) (f : Variable → Term) → map (λ (b : Variable × Term). b.1) (zip vs (map f vs)) ≡ map f vs
values_of_zip [] f = refl
values_of_zip (v ∷ vs) f = ap (λ ts. f v ∷ ts) (values_of_zip vs f)

pub variables_of_zip : (vs : List Variable) (f : Variable → Term) → map (λ (b : Variable × Term). b.0) (zip vs (map f vs)) ≡ vs
variables_of_zip [] f = refl
variables_of_zip (v ∷ vs) f = ap (λ ws. v ∷ ws) (variables_of_zip vs f)

module _ (th : Theory) (vs : List Variable) (terms : List Term) (can : IsNarrowing th) (sorted : (t : Term) → Contains terms t → well_sorted th.sig t ≡ true)
    (own : (v : Variable) → Contains (flat_map variables terms) v → Contains vs v) (of : (v : Variable) → Contains vs v → Contains (flat_map variables terms) v) where
  -- the row of a sound row's variant is the row
  pub row_again : (r : Row) → IsSound th vs terms r → row_of (variant_of vs r) ≡ r
  row_again r sound =
      let f = image (bound vs r) in
      ap (λ ts. map (λ (b : Variable × Term). b.1) (zip vs ts) ++ drop (length vs) r) (row_values th vs terms r sound)
      ∙ ap (λ ts. ts ++ drop (length vs) r) (values_of_zip vs f ∙ sym (row_values th vs terms r sound)) ∙ take-append-drop (length vs) r

  pub binds_all : (r : Row) → IsSound th vs terms r → map (λ (b : Variable × Term). b.0) (bound vs r) ≡ vs
  binds_all r sound =
      ap (λ ts. map (λ (b : Variable × Term). b.0) (zip vs ts)) (row_values th vs terms r sound) ∙ variables_of_zip vs (image (bound vs r))

  -- the terms of a sound row are the normal forms under its substitution
  pub forms_are : (r : Row) → IsSound th vs terms r → Pairwise (λ t u. IsNormalFormOf th (applied (bound vs r) t) u) terms (drop (length vs) r)
  forms_are r sound =
      subst (Pairwise (λ t u. IsNormalFormOf th (applied (bound vs r) t) u) terms) (sym sound.forms)
      (pairwise_map (λ t u. IsNormalFormOf th (applied (bound vs r) t) u) (λ t. normalized th (applied (bound vs r) t)) terms
      (λ t c. normalized_is th can.cancel (applied (bound vs r) t)))

  -- the variables of a sound row are those of its values
  pub value_variable : (r : Row) → IsSound th vs terms r → (y : Variable) → Contains (flat_map variables r) y → Contains (flat_map variables (take (length vs) r)) y
  value_variable r sound y c =
      let at = of_member r y c in
      elim (taken_or_dropped (length vs) r at.0 at.1) [
        | inl a ↦ member_variable (take (length vs) r) at.0 y a at.2
        | inr b ↦ sound.inside y (member_variable (drop (length vs) r) at.0 y b at.2)
      ]

  module _ (s : List (Variable × Term)) (respects : RespectsSorts th.sig (flat_map variables terms) s)
      (normal : (x : Variable) → Contains (flat_map variables terms) x → IsNormal th (image s x)) where
    abbrev values : List Term
    values = map (image s) vs

    values_normal : (t : Term) → Contains values t → IsNormal th t
    values_normal t c = let at = of_mapped (image s) vs t c in subst (IsNormal th) (sym at.2) (normal at.0 (of at.0 at.1))

    values_sorted : (t : Term) → Contains values t → well_sorted th.sig t ≡ true
    values_sorted t c = let at = of_mapped (image s) vs t c in subst (λ u. well_sorted th.sig u ≡ true) (sym at.2) (respects.sorted at.0 (of at.0 at.1))

    -- the substitution serves its values at the first row
    serves_start : Serves th.sig.sorts (length vs) values (start_row th vs terms) s
    serves_start = record {
      sorts = λ v c. respects.below v (of v (start_variables th vs terms can sorted own of v c));
      equal = subst (λ ts. SameAll (map (applied s) ts) values) (sym (start_taken th vs terms))
          (subst (λ ts. SameAll ts values) (sym (map_map Var (applied s) vs)) (same_all_itself values));
    }

    -- where it is settled, it goes through the variant
    module _ (r : Row) (sound : IsSound th vs terms r) (d : List (Variable × Term)) (settles : Settles th (length vs) values r d) where
      abbrev serves : Serves th.sig.sorts (length vs) values r d
      serves = settles.serves

      through_sorted : (y : Variable) → Contains (flat_map variables r) y → well_sorted th.sig (image d y) ≡ true
      through_sorted y c =
          let at = of_member (take (length vs) r) y (value_variable r sound y c) in
          let there = same_all_member serves.equal (applied d at.0) (mapped_member (applied d) (take (length vs) r) at.0 at.1) in
          image_sorted th.sig d y at.0 at.2 (same_sorted th.sig can.pairs (same_sym there.2) (values_sorted there.0 there.1))

      through_normal : (y : Variable) → Contains (flat_map variables r) y → IsNormal th (image d y)
      through_normal y c =
          let at = of_member (take (length vs) r) y (value_variable r sound y c) in
          let there = same_all_member serves.equal (applied d at.0) (mapped_member (applied d) (take (length vs) r) at.0 at.1) in
          normal_part th (image_part d y at.0 at.2) (normal_same th there.0 (applied d at.0) (same_sym there.2) (values_normal there.0 there.1))

      through_value : (x : Variable) → Contains vs x → Same (applied d (image (bound vs r) x)) (image s x)
      through_value x c =
          same_all_at (λ v. applied d (image (bound vs r) v)) (image s) vs
          (subst (λ ts. SameAll ts values) (ap (map (applied d)) (row_values th vs terms r sound) ∙ map_map (image (bound vs r)) (applied d) vs) serves.equal) x c

      through_form : (t : Term) → Contains terms t → IsNormalFormOf th (applied s t) (canonical (applied d (normalized th (applied (bound vs r) t))))
      through_form t c =
          let u = applied (bound vs r) t in
          let within : (y : Variable) → Contains (variables u) y → Contains (flat_map variables r) y =
          λ y i. (let from = applied_variables (bound vs r) y t i in
          taken_variable th vs terms r (image (bound vs r) from.var) y
          (value_listed th vs terms r sound from.var (own from.var (member_variable terms t from.var c from.occurs))) from.of) in
          let there : Contains (drop (length vs) r) (normalized th u) =
          subst (λ ts. Contains ts (normalized th u)) (sym sound.forms) (mapped_member (λ x. normalized th (applied (bound vs r) x)) terms t c) in
          let well : well_sorted th.sig (applied d u) ≡ true =
          instance_sorted th.sig d u (λ y i. through_sorted y (within y i)) (λ y i. serves.sorts y (within y i)) (under_sorted th vs terms can sorted own r sound t c) in
          let same : Same (applied d u) (applied s t) = agree (bound vs r) s d t (λ v i. through_value v (own v (member_variable terms t v c i))) in
          let is : canonical (applied d (normalized th u)) ≡ normalized th (applied s t) =
          sym (normal_form_is th can.cancel (applied d (normalized th u)) (settles.normal (normalized th u) there))
          ∙ form_of_instance th d u can.cancel can.pairs can.convergent (λ y i. serves.sorts y (within y i)) well
          ∙ form_same th can.cancel can.pairs can.convergent (applied d u) (applied s t) same well in
          subst (IsNormalFormOf th (applied s t)) (sym is) (normalized_is th can.cancel (applied s t))

      variant_variable : (y : Variable) → Contains (variant_variables (variant_of vs r)) y → Contains (flat_map variables r) y
      variant_variable y c = subst (λ ts. Contains (flat_map variables ts) y) (row_again r sound) c

      pub goes_through : IsThrough th terms s (variant_of vs r)
      goes_through = record {
        by_ = d;
        sorts = record { sorted = λ y c. through_sorted y (variant_variable y c); below = λ y c. serves.sorts y (variant_variable y c) };
        normal = λ y c. through_normal y (variant_variable y c);
        values = λ x c. through_value x (own x c);
        forms = subst (Pairwise (λ t u. IsNormalFormOf th (applied s t) (canonical (applied d u))) terms) (sym sound.forms)
            (pairwise_map (λ t u. IsNormalFormOf th (applied s t) (canonical (applied d u))) (λ t. normalized th (applied (bound vs r) t)) terms through_form);
      }

    -- so the rows that are kept are complete
    pub complete_rows : (L : List Row) → IsClosed th.sig.sorts (IsSound th vs terms) (RowResult th (length vs)) (start_row th vs terms) L →
        (v : Variant) × Contains (map (variant_of vs) L) v × IsThrough th terms s v
    complete_rows L closed =
        let at = closed_complete symbol_count (λ t u same. same_count same) th (length vs) (IsSound th vs terms) (RowResult th (length vs)) values
        (λ r z sound served. lift th vs terms can sorted own values values_normal r sound z served) (start_row th vs terms) L closed s serves_start in
        (variant_of vs at.0, mapped_member (variant_of vs) L at.0 at.1, goes_through at.0 (closed.sound at.0 at.1) at.2 at.3)

  -- the search's list is closed
  pub closed_rows : (most : ℕ) (L : List Row) → variant_rows most th (length vs) (start_row th vs terms) ≡ Ok L →
      IsClosed th.sig.sorts (IsSound th vs terms) (RowResult th (length vs)) (start_row th vs terms) L
  closed_rows most L ok =
      variants_closed most th (length vs) (IsSound th vs terms) (sound_result th vs terms can sorted own) (fewer th vs terms can sorted own) (start_row th vs terms) L
      (sound_start th vs terms can sorted own of) ok

-- a sound row is a variant
pub row_variant : (th : Theory) (terms : List Term) (can : IsNarrowing th) (sorted : (t : Term) → Contains terms t → well_sorted th.sig t ≡ true)
    (own : (v : Variable) → Contains (flat_map variables terms) v → Contains (variables_once terms) v)
    (of : (v : Variable) → Contains (variables_once terms) v → Contains (flat_map variables terms) v) (r : Row) → IsSound th (variables_once terms) terms r →
    IsVariant th terms (variant_of (variables_once terms) r)
row_variant th terms can sorted own of r sound =
    let vs = variables_once terms in
    record {
      binds = binds_all th vs terms can sorted own of r sound;
      sorts = record { sorted = λ v c. sound.sorted v (own v c); below = λ v c. sound.below_sort v (own v c) };
      normal = λ x c. sound.normal x (own x c);
      forms = forms_are th vs terms can sorted own of r sound;
    }
