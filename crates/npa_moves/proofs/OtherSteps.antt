-- Steps of further instances are made by moves of the list.
use Rattle.std.proofs.Common.{◌≡◌, ℕ, zero, suc, ◌+◌, ◌-◌, ◌<◌, ◌⊎◌, inl, inr, Some, Option, unwrap_or, List, [], ◌∷◌, ◌++◌, map, slice_get, Contains, refl, sym, ◌∙◌, ap, subst, arith}
use Rattle.std.specs.List.{flat_map}
use Rattle.std.proofs.lemmas.Option.{same_Some, none-some}
use Rattle.npa_sorts.specs.Subsorts.{Subsorts, IsAtOrBelow}
use Rattle.npa_term.specs.declared.term.Term.{Term, Var}
use Rattle.npa_term.specs.declared.term.Var.{Var as Variable}
use Rattle.npa_term.specs.Bound.{applied}
use Rattle.npa_term.specs.Parts.{image, least_sort}
use Rattle.npa_term.specs.Variables.{raised_var, renamed, variables}
use Rattle.npa_term.proofs.Lifted.{lifted, lifted_below, lifted_renamed, lifted_value}
use Rattle.npa_term.proofs.RenamedLaws.{variables-renamed}
use Rattle.npa_term.proofs.Renumbered.{member_variable}
use Rattle.npa_sig.specs.declared.protocol.Strand.{Strand}
use Rattle.npa_unify.proofs.Members.{only_one}
use Rattle.npa_variants.specs.declared.variant.Variant.{Variant}
use Rattle.npa_variants.specs.StrandVariants.{messages_of}
use Rattle.npa_variants.specs.Strands.{param_count}
use Rattle.npa_variants.proofs.Members.{of_dropped, of_mapped}
use Rattle.npa_variants.proofs.Unifying.{past_above}
use Rattle.npa_model.specs.declared.pattern.Pattern.{Pattern}
use Rattle.npa_model.specs.Patterns.{IsTermOf, Occurs}
use Rattle.npa_moves.specs.Leading.{FitsVariables}
use Rattle.npa_moves.specs.Moves.{past_pattern, past_variant}
use Rattle.npa_moves.specs.Solving.{HasOneSort, IsOneSorted}
use Rattle.npa_moves.proofs.OwnMoves.{below_past}

pub push_at : {X : Type 0} (xs : List X) (x y : X) (j : ℕ) → slice_get (xs ++ x ∷ []) j ≡ Some y → (slice_get xs j ≡ Some y) ⊎ (x ≡ y)
push_at [] x y zero e = inr (same_Some x y e)
push_at [] x y (suc j) e = absurd (none-some y e)
push_at (z ∷ xs) x y zero e = inl e
push_at (z ∷ xs) x y (suc j) e = push_at xs x y j e

pub map_push : {X Y : Type 0} (f : X → Y) (xs : List X) (x : X) → map f (xs ++ x ∷ []) ≡ map f xs ++ f x ∷ []
map_push f [] x = refl
map_push f (y ∷ xs) x = ap (λ ys. f y ∷ ys) (map_push f xs x)

pub message_member : (strand : Strand) (v : Variant) (t : Term) → Contains (messages_of strand v) t → Contains v.terms t
message_member strand v t c = of_dropped (param_count strand) v.terms t c

-- ## A substitution on raised variables, in front of one on a pattern's

module _ (o : Subsorts) (a b : List (Variable × Term)) (g : Pattern) (v : Variant) where
  abbrev pub base : ℕ
  base = past_pattern g

  abbrev pub own : List Variable
  own = flat_map variables v.terms

  pub both : List (Variable × Term)
  both = lifted base b own ++ a

  pub on_old : (t : Term) → IsTermOf g t → applied both t ≡ applied a t
  unfolding both
  on_old t there = lifted_below base b a own t (λ x c. below_past g x (record { term = t; there = there; within = c }))

  pub on_new : (t : Term) → Contains v.terms t → applied both (renamed base t) ≡ applied b t
  unfolding both
  on_new t listed = lifted_renamed base b a own t (λ x c. member_variable v.terms t x listed c)

  pub image_old : (x : Variable) → Occurs x g → image both x ≡ image a x
  unfolding both
  image_old x occurs = lifted_below base b a own (Var x) (λ y c. subst (λ (z : Variable). z.num < base) (only_one x y c) (below_past g x occurs))

  pub image_new : (x : Variable) → Contains own x → image both (raised_var base x) ≡ image b x
  unfolding both
  image_new x c = ap (λ (t : Option Term). unwrap_or t (Var (raised_var base x))) (lifted_value base b a own x c)

  -- A variable is one of the pattern, or one of the variant, raised.
  pub data Origin (x : Variable) : Type 0 where
    old : Occurs x g → Origin x
    new : (y : Variable) → Contains own y → x ≡ raised_var base y → Origin x

  pub low_origin : (x : Variable) → Origin x → x.num < base + past_variant v
  low_origin x (old occurs) = omega (arith, below_past g x occurs)
  low_origin x (new y c is) = let n : x.num ≡ y.num + base = ap (λ (z : Variable). z.num) is in omega (arith, n, past_above own y c)

  pub fits_origin : ((x : Variable) → Occurs x g → IsAtOrBelow o (least_sort (image a x)) x.sort) → FitsVariables o own b → (x : Variable) → Origin x → IsAtOrBelow o (least_sort (image both x)) x.sort
  fits_origin fits own_fits x (old occurs) = subst (λ (t : Term). IsAtOrBelow o (least_sort t) x.sort) (sym (image_old x occurs)) (fits x occurs)
  fits_origin fits own_fits x (new y c is) =
      subst (λ (z : Variable). IsAtOrBelow o (least_sort (image both z)) z.sort) (sym is)
      (subst (λ (t : Term). IsAtOrBelow o (least_sort t) y.sort) (sym (image_new y c)) (own_fits y c))

  apart_origin : (x y z : Variable) → Occurs x g → Contains own z → y ≡ raised_var base z → x.num ≡ y.num → ⊥
  apart_origin x y z occurs c is e = let n : y.num ≡ z.num + base = ap (λ (w : Variable). w.num) is in omega (arith, e, n, below_past g x occurs)

  pub one_origin : IsOneSorted g → HasOneSort own → (x y : Variable) → Origin x → Origin y → x.num ≡ y.num → x ≡ y
  one_origin one own_one x y (old ox) (old oy) e = one x y ox oy e
  one_origin one own_one x y (old ox) (new z c is) e = absurd (apart_origin x y z ox c is e)
  one_origin one own_one x y (new z c is) (old oy) e = absurd (apart_origin y x z oy c is (sym e))
  one_origin one own_one x y (new z c is) (new w d js) e =
      let n : x.num ≡ z.num + base = ap (λ (u : Variable). u.num) is in
      let m : y.num ≡ w.num + base = ap (λ (u : Variable). u.num) js in
      is ∙ ap (raised_var base) (own_one z w c d (omega (arith, e, n, m))) ∙ sym js

  -- A term is one of the pattern, or one of the variant, raised.
  pub data TermOrigin (t : Term) : Type 0 where
    old_term : IsTermOf g t → TermOrigin t
    new_term : (u : Term) → Contains v.terms u → t ≡ renamed base u → TermOrigin t

  pub origin_of : (t : Term) (x : Variable) → TermOrigin t → Contains (variables t) x → Origin x
  origin_of t x (old_term there) c = old (record { term = t; there = there; within = c })
  origin_of t x (new_term u listed is) c =
      let d = subst (λ (xs : List Variable). Contains xs x) (ap variables is ∙ variables-renamed base u) c in
      let one = of_mapped (raised_var base) (variables u) x d in
      new one.0 (member_variable v.terms u one.0 listed one.1) one.2
