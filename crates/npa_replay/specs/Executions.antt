-- How far a schedule is executed (strand spaces: Thayer, Herzog, Guttman 1999; forwards execution
-- as in Escobar, Meadows, Meseguer 2009).
use Rattle.std.specs.Prelude.{◌≡◌, ℕ, List, Result, Ok, Err, length}
use Rattle.npa_term.specs.declared.term.Term.{Term}
use Rattle.npa_sig.specs.declared.protocol.Strand.{Strand}
use Rattle.npa_sig.specs.declared.protocol.Protocol.{Protocol}
use Rattle.npa_model.specs.declared.run.Instance.{Instance}
use Rattle.npa_model.specs.declared.run.Run.{Run}
use Rattle.npa_model.specs.declared.run.RunFail.{RunFail}
use Rattle.npa_model.specs.declared.run.RunFail.TheVariants as run_fail
use Rattle.npa_model.specs.Runs.{Executes, BreaksAt, executions}
use Rattle.npa_model.specs.Aims.{IsRun, Breaks}
use Rattle.npa_model.specs.State.{State, done_of}
use Rattle.npa_replay.specs.declared.execution.Halt.{Halt}
use Rattle.npa_replay.specs.declared.execution.Halt.TheVariants as halt

-- a state in which this schedule is executed: its terms were sent, and the events are counted
pub record IsAfter (nf : Term → Term) (strands : List Strand) (instances : List Instance) (schedule : List ℕ) (state : State) : Type 0 where
  pub executes : Executes nf strands instances schedule state.sent
  pub each : length state.executed ≡ length instances
  pub counts : (i : ℕ) → done_of state i ≡ executions i schedule

-- the schedule is executed to its end, or it breaks at a step
abbrev pub Ends : (Term → Term) → List Strand → List Instance → List ℕ → State → Result (Unit {0}) Halt → Type 0
Ends nf strands instances schedule state (Ok _) = IsAfter nf strands instances schedule state
Ends nf strands instances schedule state (Err (halt.Break j why)) = BreaksAt nf strands instances schedule j why
Ends nf strands instances schedule state (Err halt.NoMemory) = Unit {0}

-- It is a run that sends the state's terms, and its events are counted.
pub record HasRun (nf : Term → Term) (protocol : Protocol) (run : Run) (state : State) : Type 0 where
  pub runs : IsRun nf protocol run state.sent
  pub each : length state.executed ≡ length run.instances
  pub counts : (i : ℕ) → done_of state i ≡ executions i run.schedule

-- it is a run, or it breaks
abbrev pub RunsThrough : (Term → Term) → Protocol → Run → Result State Halt → Type 0
RunsThrough nf protocol run (Ok state) = HasRun nf protocol run state
RunsThrough nf protocol run (Err (halt.Break j why)) = Breaks nf protocol run j why
RunsThrough nf protocol run (Err halt.NoMemory) = Unit {0}

-- a failure at a step
abbrev pub halted : ℕ → RunFail → Halt
halted j (run_fail.Stop why) = halt.Break j why
halted j run_fail.NoMemory = halt.NoMemory
