-- Where fresh names come from: a strand that declares one originates it, and whoever else sends it has
-- heard it before (strand spaces, on unique origination: Thayer, Herzog, Guttman 1999).
use Rattle.std.specs.Prelude.{◌≡◌, ℕ, ◌<◌, ◌⊎◌, true, false, List, Some, slice_get, Contains}
use Rattle.npa_term.specs.declared.term.Term.{Term}
use Rattle.npa_term.specs.declared.term.Term.TheVariants.{Name}
use Rattle.npa_term.specs.Parts.{IsPart}
use Rattle.npa_sig.specs.declared.protocol.Event.{Event}
use Rattle.npa_sig.specs.declared.protocol.Strand.{Strand}
use Rattle.npa_sig.specs.Parameters.{fresh_terms}
use Rattle.npa_model.specs.declared.run.Instance.{Instance}
use Rattle.npa_model.specs.Runs.{events_of, executions, message_of, Next}

-- the values of an instance's fresh parameters
abbrev pub fresh_of : List Strand → Instance → List Term
fresh_of strands instance = fresh_terms (slice_get strands instance.strand) instance.args

module _ (nf : Term → Term) (strands : List Strand) (instances : List Instance) where
  -- An instance has heard a fresh name before one of its events: an earlier event received a message in
  -- which the name stands.
  pub record IsHeardBefore (instance : Instance) (place n : ℕ) : Type 0 where
    pub earlier : ℕ
    pub event : Event
    pub before : earlier < place
    pub there : slice_get (events_of strands instance) earlier ≡ Some event
    pub receives : event.sent ≡ false
    pub part : IsPart (Name n) (message_of nf strands instances instance event)

  -- An instance originates: each fresh name in a message that it sends is the value of one of its fresh
  -- parameters, or was heard before.
  abbrev pub IsOriginating : Instance → Type 0
  IsOriginating instance =
      (place : ℕ) (event : Event) → slice_get (events_of strands instance) place ≡ Some event → event.sent ≡ true →
      (n : ℕ) → IsPart (Name n) (message_of nf strands instances instance event) →
      Contains (fresh_of strands instance) (Name n) ⊎ IsHeardBefore instance place n

  -- every instance does
  abbrev pub AreOriginating : Type 0
  AreOriginating = (k : ℕ) (instance : Instance) → slice_get instances k ≡ Some instance → IsOriginating instance

  -- Instance number k has sent something: a schedule executes a sent event of it.
  pub record HasSent (schedule : List ℕ) (k : ℕ) : Type 0 where
    pub place : ℕ
    pub instance : Instance
    pub event : Event
    pub executed : place < executions k schedule
    pub next : Next nf strands instances place k instance event
    pub sends : event.sent ≡ true
