-- A pattern of which every bar stands at the beginning, strand by strand.
use Rattle.std.proofs.Common.{◌≡◌, ℕ, zero, suc, ◌+◌, ◌<◌, ◌≤◌, List, [], ◌∷◌, Some, length, take, get_or, slice_get, refl, ap, sym, ◌∙◌, ⊎_elim, arith}
use Rattle.std.proofs.lemmas.Bool.{cases_lt}
use Rattle.std.proofs.lemmas.Option.{slice_get-get_or, slice_get_within, get_or_from_slice_get, same_Some}
use Rattle.npa_model.specs.declared.pattern.PStrand.{PStrand}
use Rattle.npa_model.specs.Patterns.{AreUnmoved}
use Rattle.npa_model.proofs.Places.{front_at}

-- one more strand
pub unmoved_more : (ps : List PStrand) (i : ℕ) (d : PStrand) → i < length ps → d ≡ get_or ps i d → d.bar ≡ 0 → AreUnmoved (take i ps) → AreUnmoved (take (i + 1) ps)
unmoved_more ps i d l is zero_bar before k p e = ⊎_elim
    (λ (s : k < i). before k p (front_at i ps k s ∙ sym (front_at (i + 1) ps k (omega (arith, s))) ∙ e))
    (λ (s : i ≤ k). ⊎_elim
    (λ (t : k < i + 1).
    let at : k ≡ i = omega (arith, s, t) in
    ap (λ (x : PStrand). x.bar) (same_Some p d (sym e ∙ front_at (i + 1) ps k t ∙ ap (slice_get ps) at ∙ slice_get-get_or ps i d l ∙ ap Some (sym is))) ∙ zero_bar)
    (λ (t : i + 1 ≤ k). absurd (omega (arith, t, slice_get_within (take (i + 1) ps) k p e, short (i + 1) ps)))
    (cases_lt k (i + 1)))
    (cases_lt k i)
  where
    short : (n : ℕ) (qs : List PStrand) → length (take n qs) ≤ n
    short zero qs = omega arith
    short (suc n) [] = omega arith
    short (suc n) (q ∷ qs) = omega (arith, short n qs)

-- all of them
pub unmoved_all : (ps : List PStrand) (i : ℕ) → length ps ≤ i → AreUnmoved (take i ps) → AreUnmoved ps
unmoved_all ps i l all k p e = all k p (front_at i ps k (omega (arith, l, slice_get_within ps k p e)) ∙ e)
