-- Why a closed set of patterns is met by no run. These lemmas range over relations, which a clause can't, so
-- they are for proofs to cite.
use Rattle.std.proofs.Common.{◌≡◌, ℕ, zero, suc, ◌+◌, ◌⊎◌, inl, inr, ⊎_elim, refl, sym, ◌∙◌, arith}
use Rattle.npa_model.specs.Closing.{HasShorter, StepsBack, IsClosed}

module _ (Run : Type 0) (Pattern : Type 0) (length_of : Run → ℕ) (IsGood : Run → Type 0) (Meets : Run → Pattern → Type 0) where
  module _ (Member : Pattern → Type 0) (descends : (run : Run) (p : Pattern) → Member p → IsGood run → Meets run p → HasShorter Run Pattern length_of IsGood Meets Member run) where
    -- where each run that meets a member has a shorter one that meets a member, none meets one
    pub lifting : (n : ℕ) (run : Run) (p : Pattern) → length_of run ≡ n → Member p → IsGood run → Meets run p → ⊥
    lifting zero run p e member good meets = let back = descends run p member good meets in omega (arith, e, back.shorter)
    lifting (suc n) run p e member good meets =
        let back = descends run p member good meets in
        lifting n back.back back.pattern (omega (arith, e, back.shorter)) back.member back.good back.meets

  module _ (Member IsInitial IsUnmet : Pattern → Type 0) (Step Leads : Pattern → Pattern → Type 0) (closed : IsClosed Pattern Member IsInitial IsUnmet Step Leads)
      (unmet : (run : Run) (p : Pattern) → IsUnmet p → IsGood run → Meets run p → ⊥)
      (leads : (run : Run) (p q : Pattern) → Leads p q → IsGood run → Meets run p → Meets run q) where
    module _ (back : (run : Run) (p : Pattern) → Member p → (IsInitial p → ⊥) → IsGood run → Meets run p → StepsBack Run Pattern length_of IsGood Meets Step run p) where
      descends : (run : Run) (p : Pattern) → Member p → IsGood run → Meets run p → HasShorter Run Pattern length_of IsGood Meets Member run
      descends run p member good meets =
          let b = back run p member (closed.none_initial p member) good meets in
          ⊎_elim
          (λ (again : Meets b.back p). record { back = b.back; pattern = p; good = b.good; member = member; meets = again; shorter = b.shorter })
          (λ (next : (q : Pattern) × Step p q × Meets b.back q). ⊎_elim
          (λ (u : IsUnmet next.0). absurd (unmet b.back next.0 u b.good next.2))
          (λ (m : (r : Pattern) × Member r × Leads next.0 r). record {
            back = b.back;
            pattern = m.0;
            good = b.good;
            member = m.1;
            meets = leads b.back next.0 m.0 m.2 b.good next.2;
            shorter = b.shorter;
          })
          (closed.steps p next.0 member next.1))
          b.meets

      -- no run meets a member of a closed set, where a run that meets a member that isn't initial steps back
      pub closed_unmet : (run : Run) (p : Pattern) → Member p → IsGood run → Meets run p → ⊥
      closed_unmet run p member good meets = lifting Member descends (length_of run) run p refl member good meets

      -- and so none meets a root that is met by none or leads to a member
      pub root_unmet : (run : Run) (root : Pattern) → IsUnmet root ⊎ ((r : Pattern) × Member r × Leads root r) → IsGood run → Meets run root → ⊥
      root_unmet run root known good meets = ⊎_elim
          (λ (u : IsUnmet root). unmet run root u good meets)
          (λ (m : (r : Pattern) × Member r × Leads root r). closed_unmet run m.0 m.1 good (leads run root m.0 m.2 good meets))
          known
