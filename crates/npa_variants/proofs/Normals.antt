-- Whether several terms are normal, one after another.
use Rattle.std.proofs.Common.{◌≡◌, ◌↔◌, ℕ, suc, ◌+◌, ◌<◌, Bool, true, false, IsTrue, List, length, drop, get_or, drop-cons, add-one, sym, ◌∙◌, ap}
use Rattle.std.specs.Prelude.{◌&&◌}
use Rattle.npa_term.specs.declared.term.Term.{Term}
use Rattle.npa_rewrite.specs.declared.theory.Theory.{Theory}
use Rattle.npa_rewrite.specs.Innermost.{normalized}
use Rattle.npa_rewrite.specs.Normal.{is_normal_by}
use Rattle.npa_rewrite.specs.Rewriting.{AllCancel, IsNormal}
use Rattle.npa_rewrite.proofs.Normality.{tests_own_form}
use Rattle.npa_variants.specs.Search.{are_normal}

normal_drop : (th : Theory) (ts : List Term) (i : ℕ) (t : Term) → i < length ts → t ≡ get_or ts i t →
    are_normal th (drop i ts) ≡ (is_normal_by (normalized th) t && are_normal th (drop (i + 1) ts))
normal_drop th ts i t small is = rw (drop-cons ts i t, add-one) (ap (λ u. is_normal_by (normalized th) u && are_normal th (drop (suc i) ts)) (sym is))

module _ (th : Theory) (ts : List Term) (i : ℕ) (t : Term) (b : Bool) (cancel : AllCancel th) (small : i < length ts) (is : t ≡ get_or ts i t)
    (tells : IsTrue b ↔ IsNormal th t) where
  normal_first : are_normal th (drop i ts) ≡ (b && are_normal th (drop (i + 1) ts))
  normal_first = normal_drop th ts i t small is ∙ ap (λ c. c && are_normal th (drop (i + 1) ts)) (sym (tests_own_form th t b cancel tells))

  -- a term that isn't
  pub normal_ends : b ≡ false → {whole : Bool} → are_normal th (drop i ts) ≡ whole → false ≡ whole
  normal_ends isnt all = sym (normal_first ∙ ap (λ c. c && are_normal th (drop (i + 1) ts)) isnt) ∙ all

  -- one that is
  pub normal_past : b ≡ true → {whole : Bool} → are_normal th (drop i ts) ≡ whole → are_normal th (drop (i + 1) ts) ≡ whole
  normal_past so all = sym (normal_first ∙ ap (λ c. c && are_normal th (drop (i + 1) ts)) so) ∙ all
