-- A run that meets a pattern, one step earlier (Escobar, Meadows, Meseguer 2009, on the rules that are
-- run backwards: a receive, a send that isn't learnt from, and a send that is). This is the side of runs:
-- all terms here are ground, and nothing is unified.
use Rattle.std.specs.Prelude.{◌≡◌, ℕ, ◌+◌, ◌≤◌, ◌<◌, ◌⊎◌, true, false, List, [], ◌∷◌, ◌++◌, Some, length, slice_get, slice_set, take, Contains}
use Rattle.npa_term.specs.declared.term.Term.{Term}
use Rattle.npa_term.specs.Canonical.{canonical}
use Rattle.npa_sig.specs.declared.protocol.Event.{Event}
use Rattle.npa_sig.specs.declared.protocol.Strand.{Strand}
use Rattle.npa_model.specs.declared.run.Instance.{Instance}
use Rattle.npa_model.specs.declared.pattern.PStrand.{PStrand}
use Rattle.npa_model.specs.declared.pattern.Pattern.{Pattern}
use Rattle.npa_model.specs.declared.pattern.Standing.TheVariants.{Exactly}
use Rattle.npa_model.specs.Patterns.{events_at, IsInitial}
use Rattle.npa_model.specs.Runs.{executions, message_of, Next, Executes}
use Rattle.npa_model.specs.Meeting.{MeetsGround}

-- the strand with its bar set back, and the messages up to there
abbrev pub set_back : PStrand → ℕ → PStrand
set_back p bar = record { strand = p.strand; bar = bar; args = p.args; msgs = take bar p.msgs }

-- the pattern before strand k received message m behind its first events, so many: the bar stands before
-- the event, and the message is known
abbrev pub received : ℕ → PStrand → ℕ → Term → Pattern → Pattern
received k p bar m g = record { strands = slice_set g.strands k (set_back p bar); known = g.known ++ m ∷ []; unknown = g.unknown }

-- the pattern before strand k sent a message, without its known facts
abbrev pub moved_back : ℕ → PStrand → ℕ → Pattern → Pattern
moved_back k p bar g = record { strands = slice_set g.strands k (set_back p bar); known = []; unknown = g.unknown }

-- the pattern without its known facts
abbrev pub without_known : Pattern → Pattern
without_known g = record { strands = g.strands; known = []; unknown = g.unknown }

-- No bar stands directly behind a receive.
abbrev pub NoReceive : List Strand → Pattern → Type 0
NoReceive strands g = (k bar : ℕ) (p : PStrand) (event : Event) → slice_get g.strands k ≡ Some p → p.bar ≡ bar + 1 → slice_get (events_at strands p.strand) bar ≡ Some event → event.sent ≡ true

-- A schedule and what it sends are those of one that is a step longer, with a step left out: each instance
-- has executed as many events or fewer, and what was sent was sent by the longer one.
pub record IsShorter (schedule rest : List ℕ) (sent told : List Term) : Type 0 where
  pub one_less : length schedule ≡ length rest + 1
  pub fewer : (i : ℕ) → executions i rest ≤ executions i schedule
  pub less : (t : Term) → Contains told t → Contains sent t

-- A send of a message, as the facts of a pattern see it: each known fact was sent before or is the
-- message, and no unknown fact is.
pub record Shares (told : List Term) (m : Term) (g : Pattern) : Type 0 where
  pub known : (t : Term) → Contains g.known t → Contains told (canonical t) ⊎ (m ≡ canonical t)
  pub unknown : (t : Term) → Contains g.unknown t → m ≡ canonical t → ⊥

module _ (nf : Term → Term) (strands : List Strand) (instances : List Instance) where
  -- A schedule without the last event of instance n, which received: it sends the same terms, and every
  -- other instance executes as many events as before.
  pub record Without (schedule : List ℕ) (sent : List Term) (n done : ℕ) : Type 0 where
    pub rest : List ℕ
    pub executes : Executes nf strands instances rest sent
    pub shorter : length schedule ≡ length rest + 1
    pub executed : executions n rest ≡ done
    pub others : (i : ℕ) → (i ≡ n → ⊥) → executions i rest ≡ executions i schedule

  -- A run that meets pattern g, where the last event of strand k received a message, without that receive.
  pub record BeforeReceive (schedule : List ℕ) (sent : List Term) (g : Pattern) (chosen : List ℕ) (k : ℕ) (p : PStrand) (bar : ℕ) (m : Term) : Type 0 where
    pub rest : List ℕ
    pub executes : Executes nf strands instances rest sent
    pub shorter : IsShorter schedule rest sent sent
    pub meets : MeetsGround nf strands instances rest Exactly sent (received k p bar m g) chosen

  -- The instance that serves strand k sends message m last.
  pub record ChosenSends (before : List ℕ) (told : List Term) (i : ℕ) (g : Pattern) (chosen : List ℕ) : Type 0 where
    pub k : ℕ
    pub p : PStrand
    pub instance : Instance
    pub event : Event
    pub m : Term
    pub place : slice_get chosen k ≡ Some i
    pub there : slice_get g.strands k ≡ Some p
    pub bar : p.bar ≡ executions i before + 1
    pub next : Next nf strands instances (executions i before) i instance event
    pub gives : event.sent ≡ true
    pub last : slice_get p.msgs (executions i before) ≡ Some m
    pub same : message_of nf strands instances instance event ≡ canonical m
    pub shares : Shares told (canonical m) g
    pub meets : MeetsGround nf strands instances before Exactly told (moved_back k p (executions i before) g) chosen

  -- An instance that serves no strand sends a message last.
  pub record OtherSends (before : List ℕ) (told : List Term) (i : ℕ) (g : Pattern) (chosen : List ℕ) : Type 0 where
    pub instance : Instance
    pub event : Event
    pub next : Next nf strands instances (executions i before) i instance event
    pub gives : event.sent ≡ true
    pub unchosen : Contains chosen i → ⊥
    pub shares : Shares told (message_of nf strands instances instance event) g
    pub meets : MeetsGround nf strands instances before Exactly told (without_known g) chosen

  -- What the last step did to the pattern: nothing, or it was a send of an instance that serves a strand,
  -- or of another.
  pub data Earlier (before : List ℕ) (told : List Term) (i : ℕ) (g : Pattern) (chosen : List ℕ) : Type 0 where
    idle : MeetsGround nf strands instances before Exactly told g chosen → Earlier before told i g chosen
    chosen_sends : ChosenSends before told i g chosen → Earlier before told i g chosen
    other_sends : OtherSends before told i g chosen → Earlier before told i g chosen

  -- A schedule has a last step, of instance i, and before it the pattern is met as told.
  pub record LastStep (schedule : List ℕ) (sent : List Term) (g : Pattern) (chosen : List ℕ) : Type 0 where
    pub before : List ℕ
    pub told : List Term
    pub i : ℕ
    pub is : schedule ≡ before ++ i ∷ []
    pub executes : Executes nf strands instances before told
    pub shorter : IsShorter schedule before sent told
    pub earlier : Earlier before told i g chosen
