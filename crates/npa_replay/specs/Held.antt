-- What is kept of a choice beside its pairs: a matcher of them as a witness.
use Rattle.std.specs.Prelude.{◌≡◌, true, ℕ, ◌≤◌, List, [], ◌∷◌, ◌++◌, length, Contains}
use Rattle.npa_sorts.specs.Subsorts.{Subsorts}
use Rattle.npa_term.specs.declared.term.Term.{Term}
use Rattle.npa_match.specs.Branches.{branches}
use Rattle.npa_match.specs.Matching.{bound_pairs, read_pairs}
use Rattle.npa_model.specs.declared.aim.Part.{Part}
use Rattle.npa_model.specs.declared.run.Instance.{Instance}
use Rattle.npa_model.specs.State.{State}
use Rattle.npa_replay.specs.Choices.{AreFree, IsTarget, taken, target_pairs}
use Rattle.npa_replay.specs.declared.choice.Choice.{Choice}

-- its bindings are a matcher of its pairs, and where it is said so there is no other
pub record IsHeld (o : Subsorts) (c : Choice) : Type 0 where
  pub witness : Contains (branches o (read_pairs c.pairs)) (bound_pairs c.bound)
  pub only : c.once ≡ true → length (branches o (read_pairs c.pairs)) ≤ 1

module _ (instances : List Instance) (state : State) where
  -- what comes of a choice by one of these targets for a part
  pub record IsServed (p : Part) (ns : List ℕ) (choice more : Choice) : Type 0 where
    pub number : ℕ
    pub among : Contains ns number
    pub free : AreFree choice.used (taken p number)
    pub used : more.used ≡ choice.used ++ taken p number
    pub pairs : read_pairs more.pairs ≡ read_pairs choice.pairs ++ target_pairs instances state p number

  -- what is used, and the pairs, where each of these parts has taken a target in turn
  pub data Serves : List Part → List ℕ → List (Term × Term) → Type 0 where
    none : Serves [] [] []
    more : (ps : List Part) (used : List ℕ) (pairs : List (Term × Term)) (p : Part) (n : ℕ) → Serves ps used pairs → IsTarget instances state p n → AreFree used (taken p n) →
        Serves (ps ++ p ∷ []) (used ++ taken p n) (pairs ++ target_pairs instances state p n)

  -- a choice that serves these parts
  pub record IsKept (o : Subsorts) (ps : List Part) (c : Choice) : Type 0 where
    pub held : IsHeld o c
    pub serves : Serves ps c.used (read_pairs c.pairs)
