-- How it is tested whether a run meets a ground pattern: for each strand the instances that suit it are
-- listed, and then one of each list is picked, all different (systems of distinct representatives: Hall
-- 1935).
use Rattle.std.specs.Prelude.{◌≡◌, ◌↔◌, ℕ, List, [], ◌∷◌, ◌++◌, Some, slice_get, Contains}
use Rattle.std.specs.List.{AllZip}
use Rattle.npa_term.specs.declared.term.Term.{Term}
use Rattle.npa_term.specs.Canonical.{canonical}
use Rattle.npa_sig.specs.declared.protocol.Strand.{Strand}
use Rattle.npa_model.specs.declared.run.Instance.{Instance}
use Rattle.npa_model.specs.declared.pattern.PStrand.{PStrand}
use Rattle.npa_model.specs.declared.pattern.Pattern.{Pattern}
use Rattle.npa_model.specs.declared.pattern.Standing.{Standing}
use Rattle.npa_model.specs.Meeting.{Suits, MeetsGround}
use Rattle.npa_model.specs.Runs.{executions}
use Rattle.npa_model.specs.State.{State, done_of}

-- A number of each list can be picked, so that none is used and none is picked twice.
pub data CanPick : List (List ℕ) → List ℕ → Type 0 where
  done : (used : List ℕ) → CanPick [] used
  next : (row : List ℕ) (rows : List (List ℕ)) (used : List ℕ) (n : ℕ) → Contains row n → (Contains used n → ⊥) →
      CanPick rows (used ++ n ∷ []) → CanPick (row ∷ rows) used

-- a state of a run has counted what a schedule executes
abbrev pub HasCounted : State → List ℕ → Type 0
HasCounted state schedule = (i : ℕ) → done_of state i ≡ executions i schedule

module _ (nf : Term → Term) (strands : List Strand) (instances : List Instance) (standing : Standing) (state : State) where
  -- instance number n, as it is counted, is what the strand asks for
  pub record IsSuited (p : PStrand) (n : ℕ) : Type 0 where
    pub instance : Instance
    pub there : slice_get instances n ≡ Some instance
    pub suits : Suits nf strands standing instance (done_of state n) p

  -- the numbers of the instances that suit a strand
  pub record AreSuited (p : PStrand) (row : List ℕ) : Type 0 where
    pub each : (n : ℕ) → Contains row n ↔ IsSuited p n

  -- the same of each strand
  abbrev pub AreAllSuited : List PStrand → List (List ℕ) → Type 0
  AreAllSuited ps rows = AllZip AreSuited ps rows

-- each known fact was sent, and no unknown one was
pub record AreFactsMet (sent : List Term) (g : Pattern) : Type 0 where
  pub known : (t : Term) → Contains g.known t → Contains sent (canonical t)
  pub unknown : (t : Term) → Contains g.unknown t → Contains sent (canonical t) → ⊥

-- a run meets a ground pattern with some of its instances
abbrev pub IsMet : (Term → Term) → List Strand → List Instance → List ℕ → Standing → List Term → Pattern → Type 0
IsMet nf strands instances schedule standing sent g = (chosen : List ℕ) × MeetsGround nf strands instances schedule standing sent g chosen
