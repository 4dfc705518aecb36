-- What the answer of a replay says.
use Rattle.std.specs.Prelude.{◌≡◌, Result, Ok, Err}
use Rattle.npa_term.specs.declared.error.NoMemory.{NoMemory}
use Rattle.npa_term.specs.declared.term.Term.{Term}
use Rattle.npa_sig.specs.declared.protocol.Protocol.{Protocol}
use Rattle.npa_model.specs.declared.aim.Aim.{Aim}
use Rattle.npa_model.specs.declared.run.Run.{Run}
use Rattle.npa_rewrite.specs.declared.theory.Theory.{Theory}
use Rattle.npa_rewrite.specs.Rewriting.{GivesNormalForms}
use Rattle.npa_model.specs.Aims.{Reaches, Breaks, Misses}
use Rattle.npa_replay.specs.declared.execution.Halt.{Halt}
use Rattle.npa_replay.specs.declared.execution.Halt.TheVariants as halt
use Rattle.npa_replay.specs.declared.answer.Replay.{Replay}
use Rattle.npa_replay.specs.declared.answer.Replay.TheVariants as replay

-- An answer is true of a run where the run reaches the aim, breaks at this step for this cause, or
-- misses this part (reachability of attack patterns: Escobar, Meadows, Meseguer 2009).
abbrev pub IsTrueOf : (Term → Term) → Protocol → Aim → Run → Replay → Type 0
IsTrueOf nf protocol aim run replay.Reaches = Reaches nf protocol aim run
IsTrueOf nf protocol aim run (replay.Stops j why) = Breaks nf protocol run j why
IsTrueOf nf protocol aim run (replay.Misses k) = Misses nf protocol aim run k

-- this holds of whatever function has the normal forms of a theory
abbrev pub OfNormalForms : Theory → ((Term → Term) → Type 0) → Type 0
OfNormalForms th P = (nf : Term → Term) → GivesNormalForms th nf → P nf

-- the answer about a run that breaks: the step and the cause
abbrev pub Stops : Halt → Result Replay NoMemory → Type 0
Stops (halt.Break j why) answer = answer ≡ Ok (replay.Stops j why)
Stops halt.NoMemory answer = (e : NoMemory) × (answer ≡ Err e)
