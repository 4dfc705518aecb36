-- What the search answers is a complete list of variants.
use Rattle.std.proofs.Common.{◌≡◌, ◌⊎◌, ◌<◌, ℕ, Ok, List, [], ◌∷◌, length, map, drop, zip, inl, inr, refl, sym, ◌∙◌, ap, subst}
use Rattle.std.specs.Prelude.{Contains}
use Rattle.std.specs.List.{flat_map}
use Rattle.npa_term.specs.declared.term.Var.{Var as Variable}
use Rattle.npa_term.specs.declared.term.Term.{Term, Var, Name}
use Rattle.npa_term.specs.Bound.{BindsOnce}
use Rattle.npa_term.specs.Numbering.{renumbered, variables_once}
use Rattle.npa_term.specs.Parts.{IsPart, image}
use Rattle.npa_term.specs.Variables.{variables}
use Rattle.npa_rewrite.specs.declared.theory.Theory.{Theory}
use Rattle.npa_variants.specs.declared.variant.Variant.{Variant}
use Rattle.npa_variants.specs.Narrowable.{AreNumbered, AreVariants, IsNarrowable, first_variant}
use Rattle.npa_variants.specs.Rows.{Row, own_parts}
use Rattle.npa_variants.specs.Search.{start_row, variants_of}
use Rattle.npa_variants.specs.Variants.{AreUncovered, IsVariant, bound, row_of, variant_of, variant_variables}
use Rattle.npa_variants.proofs.Closed.{IsClosed}
use Rattle.npa_variants.proofs.Completing.{closed_rows, complete_rows, row_again, row_variant}
use Rattle.npa_variants.proofs.Fewer.{fewer}
use Rattle.npa_variants.proofs.FirstCovers.{first_covers}
use Rattle.npa_variants.proofs.Levels.{RowResult}
use Rattle.npa_variants.proofs.Members.{of_mapped}
use Rattle.npa_variants.proofs.RowNumbers.{once_numbered, once_zip, renumbered_numbers}
use Rattle.npa_variants.proofs.Searched.{variants_closed, variants_good}
use Rattle.npa_variants.proofs.Sound.{IsSound, map_equal, map_map, row_values}
use Rattle.npa_variants.proofs.Sounding.{sound_result}
use Rattle.npa_variants.proofs.Starting.{in_once, once_of, sound_start, start_dropped, start_taken}
use Rattle.npa_variants.proofs.Theories.{IsNarrowing, narrowing}

zip_variables : (vs : List Variable) → zip vs (map Var vs) ≡ map (λ v. (v, Var v)) vs
zip_variables [] = refl
zip_variables (v ∷ vs) = ap (λ bs. (v, Var v) ∷ bs) (zip_variables vs)

map_same : {X : Type 0} (f : X → X) (xs : List X) → ((x : X) → Contains xs x → f x ≡ x) → map f xs ≡ xs
map_same f xs same = map_equal f (λ x. x) xs same ∙ map_itself xs
  where
    map_itself : {X : Type 0} (xs : List X) → map (λ x. x) xs ≡ xs
    map_itself [] = refl
    map_itself (x ∷ xs) = ap (λ ys. x ∷ ys) (map_itself xs)

module _ (th : Theory) (terms : List Term) (given : IsNarrowable th terms) where
  abbrev vs : List Variable
  vs = variables_once terms

  abbrev start : Row
  start = start_row th vs terms

  can : IsNarrowing th
  can = narrowing th terms given

  -- the variant of the first row is the terms themselves
  first_is : variant_of vs start ≡ first_variant th terms
  first_is =
      ap (λ ts. record { subst = zip vs ts; terms = drop (length vs) start }) (start_taken th vs terms)
      ∙ ap (λ bs. record { subst = bs; terms = drop (length vs) start }) (zip_variables vs)
      ∙ ap (λ ts. record { subst = map (λ v. (v, Var v)) vs; terms = ts }) (start_dropped th vs terms)

  first_sound : IsSound th vs terms start
  first_sound = sound_start th vs terms can given.sorted (in_once terms) (once_of terms)

  again : (r : Row) → IsSound th vs terms r → row_of (variant_of vs r) ≡ r
  again r sound = row_again th vs terms can given.sorted (in_once terms) (once_of terms) r sound

  binds_once : (r : Row) → IsSound th vs terms r → BindsOnce (bound vs r)
  binds_once r sound =
      subst (λ ts. BindsOnce (zip vs ts)) (sym (row_values th vs terms r sound)) (once_zip 0 vs (image (bound vs r)) (once_numbered terms))

  -- a sound row that is the first one or numbered anew
  abbrev IsKept : Row → Type 0
  IsKept r = IsSound th vs terms r × ((r ≡ start) ⊎ ((raw : Row) × (r ≡ renumbered raw)))

  kept_result : (r w : Row) → IsKept r → RowResult th (length vs) r w → IsKept w
  kept_result r w kept result = (sound_result th vs terms can given.sorted (in_once terms) r w kept.0 result, inr (anew_made result))
    where
      anew_made : RowResult th (length vs) r w → (raw : Row) × (w ≡ renumbered raw)
      anew_made (u, c, (e, listed, (d, member, (normal, is)))) = (_, is)

  kept_fewer : (r w : Row) → IsKept r → RowResult th (length vs) r w → length (own_parts (length vs) w) < length (own_parts (length vs) r)
  kept_fewer r w kept result = fewer th vs terms can given.sorted (in_once terms) r w kept.0 result

  module _ (rs : List Row) (ok : variants_of th terms ≡ Ok rs) where
    closed : IsClosed th.sig.sorts (IsSound th vs terms) (RowResult th (length vs)) start rs
    closed = closed_rows th vs terms can given.sorted (in_once terms) (once_of terms) 64 rs ok

    pub kept : (r : Row) → Contains rs r → IsKept r
    kept = (variants_closed 64 th (length vs) IsKept kept_result kept_fewer start rs (first_sound, inl refl) ok).sound

    pub rows_sound : (r : Row) → Contains rs r → IsSound th vs terms r
    rows_sound r c = (kept r c).0

    good : AreUncovered th.sig.sorts rs × ((others : List Row) × (rs ≡ start ∷ others))
    good =
        variants_good 64 th (length vs) (IsSound th vs terms) (sound_result th vs terms can given.sorted (in_once terms)) start
        (λ w sound cover. first_covers th vs terms can given.sorted (in_once terms) (once_of terms) w sound cover) rs first_sound ok

    abbrev list : List Variant
    list = map (variant_of vs) rs

    rows_again : map row_of list ≡ rs
    rows_again = map_map (variant_of vs) row_of rs ∙ map_same (λ r. row_of (variant_of vs r)) rs (λ r c. again r (rows_sound r c))

    -- the row of a variant that is answered
    record OfList (v : Variant) : Type 0 where
      row : Row
      listed : Contains rs row
      is : v ≡ variant_of vs row

    of_list : (v : Variant) → Contains list v → OfList v
    of_list v c = let at = of_mapped (variant_of vs) rs v c in record { row = at.0; listed = at.1; is = at.2 }

    list_named : (v : Variant) → Contains list v → (t : Term) → Contains (row_of v) t → (n : ℕ) → IsPart (Name n) t → (u : Term) × Contains terms u × IsPart (Name n) u
    list_named v c t d n part =
        let of = of_list v c in
        let sound = rows_sound of.row of.listed in
        let there : Contains of.row t = subst (λ ts. Contains ts t) (ap row_of of.is ∙ again of.row sound) d in
        let name = sound.nameless t there n part in
        (name.term, name.listed, name.there)

    list_numbered : (v : Variant) → Contains list v → (v ≡ first_variant th terms) ⊎ AreNumbered (variant_variables v)
    list_numbered v c =
        let of = of_list v c in
        let row_is : row_of v ≡ of.row = ap row_of of.is ∙ again of.row (rows_sound of.row of.listed) in
        elim (kept of.row of.listed).1 [
          | inl e ↦ inl (of.is ∙ ap (variant_of vs) e ∙ first_is)
          | inr raw ↦ inr (subst (λ ts. AreNumbered (flat_map variables ts)) (sym (row_is ∙ raw.1)) (renumbered_numbers raw.0))
        ]

    pub are_variants : AreVariants th terms list
    are_variants = record {
      members = λ v c. (
          let of = of_list v c in
          subst (IsVariant th terms) (sym of.is) (row_variant th terms can given.sorted (in_once terms) (once_of terms) of.row (rows_sound of.row of.listed))
          );
      complete = λ s respects normal. complete_rows th vs terms can given.sorted (in_once terms) (once_of terms) s respects normal rs closed;
      apart = subst (AreUncovered th.sig.sorts) (sym rows_again) good.0;
      first = (map (variant_of vs) good.1.0, ap (map (variant_of vs)) good.1.1 ∙ ap (λ v. v ∷ map (variant_of vs) good.1.0) first_is);
      once = λ v c. (let of = of_list v c in subst (λ (x : Variant). BindsOnce x.subst) (sym of.is) (binds_once of.row (rows_sound of.row of.listed)));
      nameless = list_named;
      numbered = list_numbered;
    }
