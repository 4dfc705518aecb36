-- Where the fresh names of an instance are, while it has sent nothing.
use Rattle.std.specs.Prelude.{◌≡◌, ◌<◌, ℕ, List, Some, Contains, slice_get}
use Rattle.npa_term.specs.declared.term.Term.{Term}
use Rattle.npa_term.specs.declared.term.Term.TheVariants.{Name}
use Rattle.npa_term.specs.Parts.{IsPart}
use Rattle.npa_sig.specs.declared.protocol.Event.{Event}
use Rattle.npa_sig.specs.declared.protocol.Strand.{Strand}
use Rattle.npa_model.specs.declared.run.Instance.{Instance}
use Rattle.npa_model.specs.Freshness.{HasSent, fresh_of}
use Rattle.npa_model.specs.Runs.{Executes, Next, executions, message_of}

-- A name is the value of a fresh parameter of an instance that has sent nothing yet.
pub record IsKept (nf : Term → Term) (strands : List Strand) (instances : List Instance) (schedule : List ℕ) (n : ℕ) :
    Type 0 where
  pub place : ℕ
  pub instance : Instance
  pub there : slice_get instances place ≡ Some instance
  pub silent : HasSent nf strands instances schedule place → ⊥
  pub fresh : Contains (fresh_of strands instance) (Name n)

-- In every run of these instances such a name stands in no term that was sent,
abbrev pub IsUnsent : (Term → Term) → List Strand → List Instance → Type 0
IsUnsent nf strands instances =
    (schedule : List ℕ) (sent : List Term) → Executes nf strands instances schedule sent →
    (n : ℕ) → IsKept nf strands instances schedule n → (t : Term) → Contains sent t → IsPart (Name n) t → ⊥

-- and in no message of an event that was executed.
abbrev pub IsUnheard : (Term → Term) → List Strand → List Instance → Type 0
IsUnheard nf strands instances =
    (schedule : List ℕ) (sent : List Term) → Executes nf strands instances schedule sent →
    (n : ℕ) → IsKept nf strands instances schedule n →
    (i k : ℕ) (instance : Instance) (event : Event) → k < executions i schedule →
    Next nf strands instances k i instance event → IsPart (Name n) (message_of nf strands instances instance event) → ⊥
