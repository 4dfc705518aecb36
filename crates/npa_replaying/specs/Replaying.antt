-- What the program answers of a run's file: text and status, by what was loaded of it.
use Rattle.std.specs.Prelude.{◌≡◌, ℕ, List, Some}
use Rattle.npa_sig.specs.declared.protocol.Protocol.{Protocol}
use Rattle.npa_rewrite.specs.Theories.{theory_of}
use Rattle.npa_model.specs.declared.aim.Aim.{Aim}
use Rattle.npa_model.specs.declared.run.Run.{Run}
use Rattle.npa_replay.specs.declared.answer.Replay.{Replay}
use Rattle.npa_replay.specs.Replays.{IsTrueOf, OfNormalForms}
use Rattle.npa_outside.specs.declared.loading.Loaded.{Loaded}
use Rattle.npa_outside.specs.declared.loading.Loaded.TheVariants as loaded
use Rattle.npa_outside.specs.Lines.{limit_bytes}
use Rattle.npa_outside.specs.Loads.{IsLoaded}
use Rattle.npa_outside.specs.Outside.{Outside, whatever_rose, IsTold, IsTheOne}
use Rattle.npa_run_text.specs.declared.fault.RunTextFail.{RunTextFail}
use Rattle.npa_run_text.specs.RunTexts.{ReadsRun}
use Rattle.npa_replaying.specs.Lines.{invalid, answer_text, answer_status}

-- The answer of a replay is true of the run modulo the protocol's equations.
abbrev pub IsTrueAnswer : Protocol → Aim → Run → Replay → Type 0
IsTrueAnswer protocol aim run answer = OfNormalForms (theory_of protocol) (λ nf. IsTrueOf nf protocol aim run answer)

-- and every other that is so is the same
abbrev pub IsOnlyAnswer : Protocol → Aim → Run → Replay → Type 0
IsOnlyAnswer protocol aim run answer = OfNormalForms (theory_of protocol) (λ nf. (other : Replay) → IsTrueOf nf protocol aim run other → other ≡ answer)

-- The text and the status for an answer that is true of the run.
pub record Replayed (protocol : Protocol) (aim : Aim) (run : Run) (text : List ℕ) (status : ℕ) : Type 0 where
  pub answer : Replay
  pub is_true : IsTrueAnswer protocol aim run answer
  pub text_is : text ≡ answer_text protocol run answer
  pub status_is : status ≡ answer_status answer

-- The text and the status by what was loaded of the run's file.
abbrev pub RunAnswer : Protocol → Aim → Loaded Run RunTextFail → List ℕ → ℕ → Type 0
RunAnswer protocol aim loaded.TooLong text status = (text ≡ limit_bytes) × (status ≡ 7)
RunAnswer protocol aim (loaded.Refused fail) text status = (invalid fail ≡ Some text) × (status ≡ 9)
RunAnswer protocol aim (loaded.Read run) text status = Replayed protocol aim run text status

-- This follows from the run's file.
pub record OfRun (outside : Outside) (name : List ℕ) (protocol : Protocol) (aim : Aim) (text : List ℕ) (status : ℕ) : Type 0 where
  pub found : Loaded Run RunTextFail
  pub loaded : IsLoaded (ReadsRun protocol) outside name found
  pub shown : RunAnswer protocol aim found text status

-- The text and the status follow from the run's file, and where that is known no others do.
abbrev pub IsForRun : Outside → List ℕ → Protocol → Aim → List ℕ → ℕ → Type 0
IsForRun outside name protocol aim text status =
    IsTheOne (IsTold outside name) (OfRun outside name protocol aim) (OfRun (whatever_rose outside) name protocol aim) text status
