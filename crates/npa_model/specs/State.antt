-- What is seen of a run that is being executed.
use Rattle.std.specs.Prelude.{◌≡◌, ℕ, ◌+◌, ◌<◌, List, Some, Result, Ok, Err, slice_get, slice_set, length, slice_index, refl, Bool, true, false, ◌++◌, ◌∷◌, [], Contains}
use Rattle.std.specs.Coded.{Coded, code_by, coded×, coded_ℕ, coded_list}
use Rattle.npa_term.specs.declared.term.Term.{Term}
use Rattle.npa_sig.specs.declared.protocol.Strand.{Strand}
use Rattle.npa_model.specs.declared.run.Cause.TheVariants as cause
use Rattle.npa_model.specs.declared.run.Instance.{Instance}
use Rattle.npa_model.specs.declared.run.RunFail.{RunFail}
use Rattle.npa_model.specs.declared.run.RunFail.TheVariants as run_fail
use Rattle.npa_model.specs.Runs.{Happens}

-- how many events each instance has executed, and the terms that were sent, in order
pub record State : Type 0 where
  pub executed : List ℕ
  pub sent : List Term

-- a state is stored as the pair of its lists
abbrev pub state_code : Coded Term → Coded State
state_code term = code_by (List ℕ × List Term) (coded× (coded_list coded_ℕ) (coded_list term)) (λ s. (s.executed, s.sent)) (λ p. record { executed = p.0; sent = p.1 }) (λ _. refl)

-- how many events instance i has executed
abbrev pub done_of : State → ℕ → ℕ
done_of state i = slice_index state.executed i

-- one step of instance i: it executes its next event, and what is sent is as that step says
pub record StepsTo (nf : Term → Term) (strands : List Strand) (instances : List Instance) (old new : State) (i : ℕ) : Type 0 where
  pub moves : new.executed ≡ slice_set old.executed i (done_of old i + 1)
  pub happens : Happens nf strands instances (done_of old i) old.sent i (Ok new.sent)

-- a step of instance i, or why it breaks the run, where it changes nothing
abbrev pub Steps : (Term → Term) → List Strand → List Instance → State → State → ℕ → Result (Unit {0}) RunFail → Type 0
Steps nf strands instances old new i (Ok _) = StepsTo nf strands instances old new i
Steps nf strands instances old new i (Err (run_fail.Stop why)) = (new ≡ old) × Happens nf strands instances (done_of old i) old.sent i (Err why)
Steps nf strands instances old new i (Err run_fail.NoMemory) = new ≡ old

-- a term is sent or received, between lists of what was sent
abbrev pub Exchanges : Bool → Term → List Term → List Term → Result (Unit {0}) RunFail → Type 0
Exchanges true term old new (Ok _) = new ≡ old ++ term ∷ []
Exchanges false term old new (Ok _) = Contains old term × (new ≡ old)
Exchanges sends term old new (Err (run_fail.Stop why)) = (sends ≡ false) × (why ≡ cause.Unsent term) × (Contains old term → ⊥) × (new ≡ old)
Exchanges sends term old new (Err run_fail.NoMemory) = new ≡ old

-- no strand has more events than can be counted
abbrev pub AreCountable : List Strand → Type 0
AreCountable strands = (k : ℕ) (strand : Strand) → slice_get strands k ≡ Some strand → length strand.events < 65535
