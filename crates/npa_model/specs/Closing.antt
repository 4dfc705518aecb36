-- Why a closed set of patterns is met by no run: a run that meets a member would have a shorter run that
-- meets a member, and so on without end (Escobar, Meadows, Meseguer 2009, on the completeness of the
-- backwards search; infinite descent).
use Rattle.std.specs.Prelude.{◌≡◌, ℕ, ◌+◌, ◌⊎◌}

-- Runs of some length, and patterns which they meet.
module _ (Run : Type 0) (Pattern : Type 0) (length_of : Run → ℕ) (IsGood : Run → Type 0) (Meets : Run → Pattern → Type 0) where
  -- A good run that is one step shorter meets a pattern of these.
  pub record HasShorter (Member : Pattern → Type 0) (run : Run) : Type 0 where
    pub back : Run
    pub pattern : Pattern
    pub good : IsGood back
    pub member : Member pattern
    pub meets : Meets back pattern
    pub shorter : length_of run ≡ length_of back + 1

  -- A good run that is one step shorter meets the same pattern, or one that a step leads to from it.
  pub record StepsBack (Step : Pattern → Pattern → Type 0) (run : Run) (p : Pattern) : Type 0 where
    pub back : Run
    pub good : IsGood back
    pub shorter : length_of run ≡ length_of back + 1
    pub meets : Meets back p ⊎ ((q : Pattern) × Step p q × Meets back q)

-- A set of patterns is closed: none is initial, and what a step leads to from a member is met by no run
-- or leads on to a member.
pub record IsClosed (Pattern : Type 0) (Member IsInitial IsUnmet : Pattern → Type 0) (Step Leads : Pattern → Pattern → Type 0) : Type 0 where
  pub none_initial : (p : Pattern) → Member p → IsInitial p → ⊥
  pub steps : (p q : Pattern) → Member p → Step p q → IsUnmet q ⊎ ((r : Pattern) × Member r × Leads q r)
