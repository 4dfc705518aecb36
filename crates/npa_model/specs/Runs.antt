-- Runs of a protocol, as lists of instances and steps (strand spaces: Thayer, Herzog, Guttman 1999;
-- forwards execution as in Escobar, Meadows, Meseguer 2009). They know nothing of how a program
-- keeps the state of a run.
use Rattle.std.specs.Prelude.{◌≡◌, ℕ, ◌+◌, true, false, ◌==◌, List, [], ◌∷◌, ◌++◌, None, Some, Result, Ok, Err, slice_get, take, count_by, Contains}
use Rattle.std.specs.Option.{option_map_or}
use Rattle.npa_term.specs.declared.term.Term.{Term}
use Rattle.npa_sig.specs.declared.protocol.Event.{Event}
use Rattle.npa_sig.specs.declared.protocol.Strand.{Strand}
use Rattle.npa_model.specs.declared.run.Instance.{Instance}
use Rattle.npa_model.specs.declared.run.Cause.{Cause}
use Rattle.npa_model.specs.declared.run.Cause.TheVariants as cause
use Rattle.npa_sig.specs.Values.{under}

-- the events of an instance: those of its strand
abbrev pub events_of : List Strand → Instance → List Event
events_of strands instance = option_map_or (λ strand. strand.events) (slice_get strands instance.strand) []

-- how many events of an instance a schedule executes
abbrev pub executions : ℕ → List ℕ → ℕ
executions i schedule = count_by (λ k. k == i) schedule

module _ (nf : Term → Term) (strands : List Strand) (instances : List Instance) where
  -- the event that an instance executes next, after so many of its events
  pub record Next (done i : ℕ) (instance : Instance) (event : Event) : Type 0 where
    pub there : slice_get instances i ≡ Some instance
    pub next : slice_get (events_of strands instance) done ≡ Some event

  -- the normal form of the event's message under the instance's values
  abbrev pub message_of : Instance → Event → Term
  message_of instance event = nf (under instance.args event.msg)

  -- A step of instance i after so many of its events, where these terms were sent: what is sent
  -- afterwards, or why the run breaks.
  pub data Happens (done : ℕ) (sent : List Term) (i : ℕ) : Result (List Term) Cause → Type 0 where
    no_instance : slice_get instances i ≡ None → Happens done sent i (Err (cause.Instance i))
    ended : (instance : Instance) → slice_get instances i ≡ Some instance → slice_get (events_of strands instance) done ≡ None → Happens done sent i (Err (cause.Ended i))
    unsent : (instance : Instance) (event : Event) → Next done i instance event → event.sent ≡ false → (Contains sent (message_of instance event) → ⊥) → Happens done sent i (Err (cause.Unsent (message_of instance event)))
    receives : (instance : Instance) (event : Event) → Next done i instance event → event.sent ≡ false → Contains sent (message_of instance event) → Happens done sent i (Ok sent)
    sends : (instance : Instance) (event : Event) → Next done i instance event → event.sent ≡ true → Happens done sent i (Ok (sent ++ message_of instance event ∷ []))

  -- the schedule is executed from its first step to its last, and sends these terms in order
  pub data Executes : List ℕ → List Term → Type 0 where
    begin : Executes [] []
    step : (before : List ℕ) (sent after : List Term) (i : ℕ) → Executes before sent → Happens (executions i before) sent i (Ok after) → Executes (before ++ i ∷ []) after

  -- the schedule is executed up to a step, numbered from 1, which breaks the run
  pub record BreaksAt (schedule : List ℕ) (j : ℕ) (why : Cause) : Type 0 where
    pub before : ℕ
    pub place : j ≡ before + 1
    pub sent : List Term
    pub executes : Executes (take before schedule) sent
    pub i : ℕ
    pub named : slice_get schedule before ≡ Some i
    pub breaks : Happens (executions i (take before schedule)) sent i (Err why)
