-- What the program prints for its words, by what lies outside it: one relation for each command.
use Rattle.std.specs.Prelude.{◌≡◌, ◌⊎◌, ℕ, Bool, ◌||◌, nat_eq, List, Option, None, Some}
use Rattle.npa_text.specs.Counts.{appended, AppendsFront}
use Rattle.npa_sig.specs.declared.protocol.Protocol.{Protocol}
use Rattle.npa_rewrite.specs.Theories.{theory_of}
use Rattle.npa_model.specs.declared.aim.Aim.{Aim}
use Rattle.npa_model.specs.declared.run.Run.{Run}
use Rattle.npa_model.specs.Aims.{Reaches}
use Rattle.npa_module.specs.declared.source.Source.{Source}
use Rattle.npa_module.specs.Modules.{Reads}
use Rattle.npa_close.specs.Checks.{aim_called}
use Rattle.npa_checking.specs.Checking.{IsCheckLine}
use Rattle.npa_replay.specs.Replays.{OfNormalForms}
use Rattle.npa_outside.specs.declared.loading.Loaded.TheVariants as loaded
use Rattle.npa_outside.specs.Loads.{IsLoaded}
use Rattle.npa_outside.specs.Outside.{Outside, whatever_rose, IsTold, IsTheOne}
use Rattle.npa_run_text.specs.RunTexts.{ReadsRun}
use Rattle.npa_replaying.specs.Replaying.{OfRun}
use Rattle.npa_answers.specs.declared.commands.Command.{Command}
use Rattle.npa_answers.specs.declared.commands.Command.TheVariants as command
use Rattle.npa_answers.specs.Commands.{command_of, word_at, usage_line}
use Rattle.npa_answers.specs.Lines.{refused_no_aim}
use Rattle.npa_answers.specs.Modules.{OfFile, OfSource, PassesChecks}

-- ## Commands

-- `check FILE`
abbrev pub Checks : Outside → List ℕ → List ℕ → ℕ → Type 0
Checks outside file text status = OfFile outside file IsCheckLine text status

-- Of the aim of a name, what follows from the run's file, where there is such an aim.
abbrev pub AimAnswer : Option Aim → Outside → List ℕ → List ℕ → Protocol → List ℕ → ℕ → Type 0
AimAnswer (Some aim) outside name run protocol text status = OfRun outside run protocol aim text status
AimAnswer None outside name run protocol text status = (text ≡ refused_no_aim name) × (status ≡ 3)

abbrev pub AimReplays : Outside → List ℕ → List ℕ → Protocol → List Aim → List ℕ → ℕ → Type 0
AimReplays outside name run protocol aims text status = AimAnswer (aim_called name aims) outside name run protocol text status

abbrev pub SourceReplays : Outside → List ℕ → List ℕ → Source → List ℕ → ℕ → Type 0
SourceReplays outside name run source text status = OfSource source (AimReplays outside name run source.protocol source.aims) text status

-- `replay FILE AIM RUN`
abbrev pub Replays : Outside → List ℕ → List ℕ → List ℕ → List ℕ → ℕ → Type 0
Replays outside file name run text status = OfFile outside file (SourceReplays outside name run) text status

-- the usage line, which stands for words that are no command
abbrev pub Usage : List ℕ → ℕ → Type 0
Usage text status = (text ≡ usage_line) × (status ≡ 2)

-- A command of the usage line that isn't built yet is answered by that line.
abbrev pub ShownFor : Option Command → Outside → List (List ℕ) → List ℕ → ℕ → Type 0
ShownFor (Some command.Check) outside words text status = Checks outside (word_at words 1) text status
ShownFor (Some command.Replay) outside words text status = Replays outside (word_at words 1) (word_at words 2) (word_at words 3) text status
ShownFor (Some (command.Search budget workers)) outside words text status = Usage text status
ShownFor (Some command.Verify) outside words text status = Usage text status
ShownFor (Some (command.Gen n workers)) outside words text status = Usage text status
ShownFor None outside words text status = Usage text status

-- the text and the status for these words
abbrev pub Shown : Outside → List (List ℕ) → List ℕ → ℕ → Type 0
Shown outside words text status = ShownFor (command_of words) outside words text status

-- ## No other text and status

-- What the run's file holds is known, where these aims have one of the name,
abbrev pub AimIsTold : Outside → List ℕ → List ℕ → List Aim → Type 0
AimIsTold outside name run aims = (aim : Aim) → aim_called name aims ≡ Some aim → IsTold outside run

-- and where the module passes its checks,
abbrev pub SourceIsTold : Outside → List ℕ → List ℕ → Source → Type 0
SourceIsTold outside name run source = PassesChecks source.protocol source.aims → AimIsTold outside name run source.aims

-- and so is what the module's file holds.
pub record AreToldOf (outside : Outside) (file name run : List ℕ) : Type 0 where
  pub module_told : IsTold outside file
  pub source_told : (source : Source) → IsLoaded Reads outside file (loaded.Read source) → SourceIsTold outside name run source

-- what the files hold that the words need is known
abbrev pub AreToldFor : Option Command → Outside → List (List ℕ) → Type 0
AreToldFor (Some command.Check) outside words = IsTold outside (word_at words 1)
AreToldFor (Some command.Replay) outside words = AreToldOf outside (word_at words 1) (word_at words 2) (word_at words 3)
AreToldFor (Some (command.Search budget workers)) outside words = Unit {0}
AreToldFor (Some command.Verify) outside words = Unit {0}
AreToldFor (Some (command.Gen n workers)) outside words = Unit {0}
AreToldFor None outside words = Unit {0}

abbrev pub AreTold : Outside → List (List ℕ) → Type 0
AreTold outside words = AreToldFor (command_of words) outside words

-- The text and the status are for the name behind `check`, and where what its file holds is known no others are.
abbrev pub IsForCheck : Outside → List ℕ → List ℕ → ℕ → Type 0
IsForCheck outside file text status =
    IsTheOne (IsTold outside file) (Checks outside file) (Checks (whatever_rose outside) file) text status

-- the same for the names behind `replay`, for a module that is read, and for one that passes its checks
abbrev pub IsForReplay : Outside → List ℕ → List ℕ → List ℕ → List ℕ → ℕ → Type 0
IsForReplay outside file name run text status =
    IsTheOne (AreToldOf outside file name run) (Replays outside file name run) (Replays (whatever_rose outside) file name run) text status

abbrev pub IsForSource : Outside → List ℕ → List ℕ → Source → List ℕ → ℕ → Type 0
IsForSource outside name run source text status =
    IsTheOne (SourceIsTold outside name run source) (SourceReplays outside name run source)
    (SourceReplays (whatever_rose outside) name run source) text status

abbrev pub IsForAim : Outside → List ℕ → List ℕ → Protocol → List Aim → List ℕ → ℕ → Type 0
IsForAim outside name run protocol aims text status =
    IsTheOne (AimIsTold outside name run aims) (AimReplays outside name run protocol aims)
    (AimReplays (whatever_rose outside) name run protocol aims) text status

-- The text and the status are for these words, and where the files' texts are known, no others are.
abbrev pub IsFor : Outside → List (List ℕ) → List ℕ → ℕ → Type 0
IsFor outside words text status = IsTheOne (AreTold outside words) (Shown outside words) (Shown (whatever_rose outside) words) text status

-- ## What is written

-- The statuses with which a text is printed whole.
abbrev pub is_told : ℕ → Bool
is_told status = nat_eq status 0 || nat_eq status 2 || nat_eq status 3 || nat_eq status 7 || nat_eq status 9

-- the text for the words, with this status, stands behind what was written
pub record Prints (outside : Outside) (words : List (List ℕ)) (before after : Option (List ℕ)) (status : ℕ) : Type 0 where
  pub text : List ℕ
  pub shown : IsFor outside words text status
  pub written : after ≡ appended before text

-- no more than a front of the text for the words stands behind what was written
pub record PrintsFront (outside : Outside) (words : List (List ℕ)) (before after : Option (List ℕ)) : Type 0 where
  pub text : List ℕ
  pub status : ℕ
  pub shown : IsFor outside words text status
  pub front : AppendsFront before after text

-- ## What succeeds

-- The words ask for a check, and the file holds a module that passes it.
pub record ModulePasses (outside : Outside) (words : List (List ℕ)) : Type 0 where
  pub source : Source
  pub command : command_of words ≡ Some command.Check
  pub source_is : IsLoaded Reads outside (word_at words 1) (loaded.Read source)
  pub passes : PassesChecks source.protocol source.aims

-- The words ask for a replay, the files hold a module that passes its checks and a run of its protocol,
-- and the run reaches the module's aim of that name.
pub record RunReaches (outside : Outside) (words : List (List ℕ)) : Type 0 where
  pub source : Source
  pub aim : Aim
  pub run : Run
  pub command : command_of words ≡ Some command.Replay
  pub source_is : IsLoaded Reads outside (word_at words 1) (loaded.Read source)
  pub passes : PassesChecks source.protocol source.aims
  pub aim_is : aim_called (word_at words 2) source.aims ≡ Some aim
  pub run_is : IsLoaded (ReadsRun source.protocol) outside (word_at words 3) (loaded.Read run)
  pub reaches : OfNormalForms (theory_of source.protocol) (λ nf. Reaches nf source.protocol aim run)

abbrev pub Succeeds : Outside → List (List ℕ) → Type 0
Succeeds outside words = ModulePasses outside words ⊎ RunReaches outside words

-- ## What can't be read

-- A fault of reading shows in the count of the run's file, where there is an aim of the name,
pub record AimFault (outside : Outside) (name run : List ℕ) (aims : List Aim) : Type 0 where
  pub aim : Aim
  pub aim_is : aim_called name aims ≡ Some aim
  pub rose : outside.fault run

-- and the module passes its checks,
pub record SourceFault (outside : Outside) (name run : List ℕ) (source : Source) : Type 0 where
  pub passes : PassesChecks source.protocol source.aims
  pub second : AimFault outside name run source.aims

-- or in the count of the module's file.
pub data ReadFaultOf (outside : Outside) (file name run : List ℕ) : Type 0 where
  first : outside.fault file → ReadFaultOf outside file name run
  second : (source : Source) → IsLoaded Reads outside file (loaded.Read source) → SourceFault outside name run source → ReadFaultOf outside file name run

abbrev pub ReadFaultFor : Option Command → Outside → List (List ℕ) → Type 0
ReadFaultFor (Some command.Check) outside words = outside.fault (word_at words 1)
ReadFaultFor (Some command.Replay) outside words = ReadFaultOf outside (word_at words 1) (word_at words 2) (word_at words 3)
ReadFaultFor (Some (command.Search budget workers)) outside words = ⊥
ReadFaultFor (Some command.Verify) outside words = ⊥
ReadFaultFor (Some (command.Gen n workers)) outside words = ⊥
ReadFaultFor None outside words = ⊥

abbrev pub ReadFault : Outside → List (List ℕ) → Type 0
ReadFault outside words = ReadFaultFor (command_of words) outside words
