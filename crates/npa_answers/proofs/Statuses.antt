-- The statuses with which texts are told.
use Rattle.std.proofs.Common.{◌≡◌, ℕ, Bool, true, inl, inr, List, Option, None, Some, Result, Ok, Err, refl, sym, ap, subst, ◌∙◌, arith}
use Rattle.std.specs.Prelude.{◌⊎◌}
use Rattle.npa_sig.specs.declared.protocol.Protocol.{Protocol}
use Rattle.npa_model.specs.declared.aim.Aim.{Aim}
use Rattle.npa_model.specs.declared.run.Run.{Run}
use Rattle.npa_module.specs.declared.source.Source.{Source}
use Rattle.npa_module.specs.declared.source.ReadError.{ReadError}
use Rattle.npa_module.specs.declared.source.ReadError.TheVariants as read_error
use Rattle.npa_replay.specs.declared.answer.Replay.{Replay}
use Rattle.npa_replay.specs.declared.answer.Replay.TheVariants as replay
use Rattle.npa_outside.specs.declared.loading.Loaded.{Loaded}
use Rattle.npa_outside.specs.declared.loading.Loaded.TheVariants as loaded
use Rattle.npa_outside.specs.Outside.{Outside}
use Rattle.npa_run_text.specs.declared.fault.RunTextFail.{RunTextFail}
use Rattle.npa_replaying.specs.Lines.{answer_status}
use Rattle.npa_replaying.specs.Replaying.{RunAnswer, OfRun}
use Rattle.npa_close.specs.declared.fail.CheckFail.{CheckFail}
use Rattle.npa_checking.specs.Checking.{told, IsCheckLine}
use Rattle.npa_checking.proofs.Statuses.{fail_told}
use Rattle.npa_answers.specs.declared.commands.Command.{Command}
use Rattle.npa_answers.specs.declared.commands.Command.TheVariants as command
use Rattle.npa_answers.specs.Commands.{word_at}
use Rattle.npa_answers.specs.Lines.{refusal}
use Rattle.npa_answers.specs.Modules.{FileAnswer, SourceAnswer}
use Rattle.npa_answers.specs.Answers.{AimAnswer, AimReplays, SourceReplays, Checks, Replays, ShownFor, is_told}
use Rattle.npa_answers.proofs.Sources.{the_same}

-- ## Of a module

status_is : {a b : List ℕ × ℕ} → Some a ≡ Some b → b.1 ≡ a.1
status_is e = ap (λ (p : List ℕ × ℕ). p.1) (the_same e)

pub refusal_status : (error : ReadError) (text : List ℕ) (status : ℕ) → refusal error ≡ Some (text, status) → (status ≡ 3) ⊎ (status ≡ 7)
refusal_status (read_error.Syntax line col) text status e = inl (status_is e)
refusal_status (read_error.Later line col) text status e = inl (status_is e)
refusal_status (read_error.Limit limited n) text status e = inr (status_is e)
refusal_status (read_error.Name name line col) text status e = inl (status_is e)
refusal_status (read_error.Sort name line col) text status e = inl (status_is e)
refusal_status read_error.NoMemory text status e = absurd (cc)

-- a status that is neither 3 nor 7 isn't 0
pub not_zero : {A : Type 0} (status : ℕ) → (status ≡ 3) ⊎ (status ≡ 7) → status ≡ 0 → A
not_zero status (inl e) z = absurd (omega (arith, e, z))
not_zero status (inr e) z = absurd (omega (arith, e, z))

three_or_seven : (status : ℕ) → (status ≡ 3) ⊎ (status ≡ 7) → is_told status ≡ true
three_or_seven status (inl e) = ap is_told e
three_or_seven status (inr e) = ap is_told e

-- ## Of a run

answer_told : (answer : Replay) → is_told (answer_status answer) ≡ true
answer_told replay.Reaches = refl
answer_told (replay.Stops step why) = refl
answer_told (replay.Misses part) = refl

run_status : (protocol : Protocol) (aim : Aim) (found : Loaded Run RunTextFail) (text : List ℕ) (status : ℕ) → RunAnswer protocol aim found text status → is_told status ≡ true
run_status protocol aim loaded.TooLong text status a = ap is_told a.1
run_status protocol aim (loaded.Refused f) text status a = ap is_told a.1
run_status protocol aim (loaded.Read run) text status a = ap is_told a.status_is ∙ answer_told a.answer

-- ## Of the words

file_status : (Rest : Source → List ℕ → ℕ → Type 0) (found : Loaded Source ReadError) (text : List ℕ) (status : ℕ) → FileAnswer found Rest text status →
    ((source : Source) → Rest source text status → is_told status ≡ true) → is_told status ≡ true
file_status Rest loaded.TooLong text status a rest = ap is_told a.1
file_status Rest (loaded.Refused error) text status a rest = three_or_seven status (refusal_status error text status a)
file_status Rest (loaded.Read source) text status a rest = rest source a

line_status : (source : Source) (failing : Option CheckFail) (text : List ℕ) (status : ℕ) → told source failing ≡ Some (text, status) → is_told status ≡ true
line_status source None text status e = ap is_told (status_is e)
line_status source (Some f) text status e = three_or_seven status (fail_told source f text status e)

aim_status : (outside : Outside) (name run : List ℕ) (protocol : Protocol) (o : Option Aim) (text : List ℕ) (status : ℕ) → AimAnswer o outside name run protocol text status → is_told status ≡ true
aim_status outside name run protocol None text status a = ap is_told a.1
aim_status outside name run protocol (Some aim) text status of = run_status protocol aim of.found text status of.shown

checks_status : (outside : Outside) (name run : List ℕ) (source : Source) (failing : Option CheckFail) (o : Option Aim) (text : List ℕ) (status : ℕ) →
    SourceAnswer source failing (AimAnswer o outside name run source.protocol) text status → is_told status ≡ true
checks_status outside name run source (Some f) o text status line = three_or_seven status (fail_told source f text status line)
checks_status outside name run source None o text status a = aim_status outside name run source.protocol o text status a.1

pub shown_status : (outside : Outside) (words : List (List ℕ)) (c : Option Command) (text : List ℕ) (status : ℕ) → ShownFor c outside words text status → is_told status ≡ true
shown_status outside words None text status u = ap is_told u.1
shown_status outside words (Some command.Check) text status of =
    file_status IsCheckLine of.found text status of.shown (λ source is. line_status source is.failing text status is.line)
shown_status outside words (Some command.Replay) text status of =
    file_status (SourceReplays outside (word_at words 2) (word_at words 3)) of.found text status of.shown
    (λ source is. checks_status outside (word_at words 2) (word_at words 3) source is.failing _ text status is.shown)
shown_status outside words (Some (command.Search b w)) text status u = ap is_told u.1
shown_status outside words (Some command.Verify) text status u = ap is_told u.1
shown_status outside words (Some (command.Gen n w)) text status u = ap is_told u.1
