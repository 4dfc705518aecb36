-- Strands that are served one after another.
use Rattle.std.proofs.Common.{◌≡◌, ℕ, zero, suc, ◌+◌, List, [], ◌∷◌, Some, length, slice_get, Contains, refl, ap, sym, ◌∙◌, subst, arith}
use Rattle.std.proofs.lemmas.Option.{same_Some, none-some}
use Rattle.npa_term.specs.declared.term.Term.{Term}
use Rattle.npa_sig.specs.declared.protocol.Strand.{Strand}
use Rattle.npa_model.specs.declared.run.Instance.{Instance}
use Rattle.npa_model.specs.declared.pattern.PStrand.{PStrand}
use Rattle.npa_model.specs.declared.pattern.Standing.{Standing}
use Rattle.npa_model.specs.Meeting.{Serves, AreServed}
use Rattle.npa_model.proofs.Places.{place_of, member_at}

module _ (nf : Term → Term) (strands : List Strand) (instances : List Instance) (schedule : List ℕ) (standing : Standing) where
  abbrev IsServed : ℕ → PStrand → Type 0
  IsServed = Serves nf strands instances schedule standing

  abbrev AreAll : List PStrand → List ℕ → Type 0
  AreAll = AreServed nf strands instances schedule standing

  pub served_none : AreAll [] []
  served_none = record { as_many = refl; serves = λ k n p c e. absurd (none-some n c); apart = λ j k n c d. absurd (none-some n c) }

  -- one more strand is served
  pub served_more : (p : PStrand) (ps : List PStrand) (n : ℕ) (chosen : List ℕ) → IsServed n p → (Contains chosen n → ⊥) → AreAll ps chosen → AreAll (p ∷ ps) (n ∷ chosen)
  served_more p ps n chosen s new a = record {
    as_many = ap (λ k. suc k) a.as_many;
    serves = at_place;
    apart = at_places;
  }
    where
      at_place : (k i : ℕ) (q : PStrand) → slice_get (n ∷ chosen) k ≡ Some i → slice_get (p ∷ ps) k ≡ Some q → IsServed i q
      at_place zero i q c e = subst (λ (x : PStrand). IsServed i x) (same_Some p q e) (subst (λ (x : ℕ). IsServed x p) (same_Some n i c) s)
      at_place (suc k) i q c e = a.serves k i q c e

      at_places : (j k i : ℕ) → slice_get (n ∷ chosen) j ≡ Some i → slice_get (n ∷ chosen) k ≡ Some i → j ≡ k
      at_places zero zero i c d = refl
      at_places zero (suc k) i c d = absurd (new (member_at chosen k n (d ∙ ap Some (sym (same_Some n i c)))))
      at_places (suc j) zero i c d = absurd (new (member_at chosen j n (c ∙ ap Some (sym (same_Some n i d)))))
      at_places (suc j) (suc k) i c d = ap (λ m. suc m) (a.apart j k i c d)

  -- or one less
  pub served_less : (p : PStrand) (ps : List PStrand) (n : ℕ) (chosen : List ℕ) → AreAll (p ∷ ps) (n ∷ chosen) → IsServed n p × (Contains chosen n → ⊥) × AreAll ps chosen
  served_less p ps n chosen a = (
    a.serves 0 n p refl refl,
    λ c. let at = place_of chosen n c in never (a.apart 0 (suc at.0) n refl at.1),
    record {
      as_many = omega (arith, a.as_many);
      serves = λ k i q c e. a.serves (suc k) i q c e;
      apart = λ j k i c d. omega (arith, a.apart (suc j) (suc k) i c d);
    },
  )
    where
      never : {k : ℕ} → zero ≡ suc k → ⊥
      never e = cc
