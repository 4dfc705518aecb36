-- Steps keep terms well sorted.
use Rattle.std.proofs.Common.{◌≡◌, ℕ, true, List, ◌∷◌, ◌++◌, slice_get, ◌∙◌, ap, inl, refl}
use Rattle.std.specs.Prelude.{Contains, IsTrue}
use Rattle.npa_sorts.specs.Subsorts.{IsAtOrBelow}
use Rattle.npa_sorts.proofs.Climbs.{decides}
use Rattle.npa_term.specs.declared.term.Var.{Var as Variable}
use Rattle.npa_term.specs.declared.term.Term.{Term}
use Rattle.npa_term.specs.Bound.{applied}
use Rattle.npa_term.specs.Canonical.{canonical}
use Rattle.npa_term.specs.Parts.{image, least_sort}
use Rattle.npa_term.specs.Same.{Same}
use Rattle.npa_term.specs.Symbols.{symbol_count}
use Rattle.npa_term.specs.Variables.{variables}
use Rattle.npa_term.proofs.CanonicalLaws.{canonical_same}
use Rattle.npa_sig.specs.Operators.{PairsCommute}
use Rattle.npa_sig.specs.Signature.{Signature}
use Rattle.npa_sig.specs.Sorting.{is_below, well_sorted}
use Rattle.npa_rewrite.specs.declared.theory.Theory.{Theory}
use Rattle.npa_rewrite.specs.Lightening.{Lightens}
use Rattle.npa_rewrite.specs.Rewriting.{Replaces, here, inside, Rewrites, AllCancel, Steps, none, more}
use Rattle.npa_rewrite.proofs.Lightening.{cancel_lightens}
use Rattle.npa_rewrite.proofs.Sorting.{image_sorted, lower_declared, same_sorted, sorted_app, sorted_in, sorted_parts}

module _ (th : Theory) (weigh : Term → ℕ) (light : Lightens th weigh) where
  replaced_below : {t u : Term} → Replaces th t u → IsAtOrBelow th.sig.sorts (least_sort u) (least_sort t)
  replaced_below (here e s c q) = light.sort e s c q
  replaced_below (inside op before after t u r) = inl refl

  replaced_sorted : {t u : Term} → Replaces th t u → well_sorted th.sig t ≡ true → well_sorted th.sig u ≡ true
  replaced_sorted (here e s c q) sorted = light.sorted e s c q sorted
  replaced_sorted (inside op before after t u r) sorted =
      let parts = sorted_parts th.sig op (before ++ t ∷ after) sorted in
      let low : is_below th.sig (least_sort u) (least_sort t) ≡ true = (decides th.sig.sorts (least_sort u) (least_sort t)).1 (replaced_below r) in
      sorted_app th.sig op (before ++ u ∷ after) (lower_declared th.sig op before after t u (slice_get th.sig.ops op.num) low parts.0)
      (sorted_in th.sig before after t u (replaced_sorted r) parts.1)

  module _ (pairs : PairsCommute th.sig) where
    -- where equations make terms lighter, a step of a well-sorted term makes a well-sorted term
    pub lighter_sorted : {t u : Term} → Rewrites th t u → IsTrue (well_sorted th.sig t) → IsTrue (well_sorted th.sig u)
    lighter_sorted r sorted =
        ap (well_sorted th.sig) r.form
        ∙ same_sorted th.sig pairs (canonical_same r.to) (replaced_sorted r.replaces (same_sorted th.sig pairs r.same sorted))

    steps_sorted : {t u : Term} → Steps th t u → IsTrue (well_sorted th.sig t) → IsTrue (well_sorted th.sig u)
    steps_sorted none sorted = sorted
    steps_sorted (more u v p r) sorted = lighter_sorted r (steps_sorted p sorted)

    -- and so do the steps from its canonical form
    pub lighter_form_sorted : (t u : Term) → Steps th (canonical t) u → IsTrue (well_sorted th.sig t) → IsTrue (well_sorted th.sig u)
    lighter_form_sorted t u p sorted = steps_sorted p (same_sorted th.sig pairs (canonical_same t) sorted)

-- a substitution takes well-sorted terms from a well-sorted one
pub value_sorted : (sig : Signature) (t left : Term) (s : List (Variable × Term)) (v : Variable) → PairsCommute sig → Same t (applied s left) → IsTrue (well_sorted sig t) → Contains (variables left) v →
    IsTrue (well_sorted sig (image s v))
value_sorted sig t left s v pairs p sorted c = image_sorted sig s v left c (same_sorted sig pairs p sorted)

-- where all equations cancel, steps keep terms well sorted
pub keeps_sorted : (th : Theory) (t u : Term) → AllCancel th → PairsCommute th.sig → Rewrites th t u → IsTrue (well_sorted th.sig t) → IsTrue (well_sorted th.sig u)
keeps_sorted th t u cancel pairs r sorted = lighter_sorted th symbol_count (cancel_lightens th cancel) pairs r sorted

pub form_sorted : (th : Theory) (t u : Term) → AllCancel th → PairsCommute th.sig → Steps th (canonical t) u → IsTrue (well_sorted th.sig t) → IsTrue (well_sorted th.sig u)
form_sorted th t u cancel pairs p sorted = lighter_form_sorted th symbol_count (cancel_lightens th cancel) pairs t u p sorted
