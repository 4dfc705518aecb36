-- The text for the words, and what its status tells.
use Rattle.std.proofs.Common.{◌≡◌, ℕ, true, inl, inr, List, Option, None, Some, Result, Ok, Err, refl, sym, ap, subst, ◌∙◌, arith}
use Rattle.std.specs.Prelude.{◌⊎◌, codes}
use Rattle.npa_sig.specs.declared.protocol.Protocol.{Protocol}
use Rattle.npa_rewrite.specs.Theories.{theory_of}
use Rattle.npa_model.specs.declared.aim.Aim.{Aim}
use Rattle.npa_model.specs.declared.run.Run.{Run}
use Rattle.npa_model.specs.Aims.{Reaches}
use Rattle.npa_module.specs.declared.source.Source.{Source}
use Rattle.npa_module.specs.declared.source.ReadError.{ReadError}
use Rattle.npa_module.specs.Modules.{Reads}
use Rattle.npa_replay.specs.declared.answer.Replay.{Replay}
use Rattle.npa_replay.specs.declared.answer.Replay.TheVariants as replay
use Rattle.npa_replay.specs.Replays.{OfNormalForms}
use Rattle.npa_outside.specs.declared.loading.Loaded.{Loaded}
use Rattle.npa_outside.specs.declared.loading.Loaded.TheVariants as loaded
use Rattle.npa_outside.specs.Loads.{IsLoaded}
use Rattle.npa_outside.specs.Outside.{Outside, whatever_rose}
use Rattle.npa_run_text.specs.declared.fault.RunTextFail.{RunTextFail}
use Rattle.npa_run_text.specs.RunTexts.{ReadsRun}
use Rattle.npa_replaying.specs.Lines.{answer_status}
use Rattle.npa_replaying.specs.Replaying.{OfRun, RunAnswer, IsTrueAnswer}
use Rattle.npa_close.specs.declared.fail.CheckFail.{CheckFail}
use Rattle.npa_close.specs.Checks.{IsFirstFail, aim_called}
use Rattle.npa_checking.specs.Lines.{passed_text}
use Rattle.npa_checking.specs.Checking.{told, IsCheckLine}
use Rattle.npa_answers.specs.declared.commands.Command.{Command}
use Rattle.npa_answers.specs.declared.commands.Command.TheVariants as command
use Rattle.npa_answers.specs.Commands.{command_of, word_at, usage_line}
use Rattle.npa_answers.specs.Modules.{FileAnswer, PassesChecks, SourceAnswer}
use Rattle.npa_answers.specs.Answers.{AimAnswer, SourceReplays, Checks, Replays, Usage, ShownFor, Shown, AreToldOf, AreToldFor, AreTold, IsForCheck, IsForReplay, IsFor, is_told, ModulePasses, RunReaches, Succeeds, ReadFaultOf, ReadFault, ReadFaultFor}
use Rattle.npa_checking.proofs.Statuses.{fail_told}
use Rattle.npa_answers.proofs.Sources.{passes_where}
use Rattle.npa_answers.proofs.Statuses.{refusal_status, not_zero, shown_status}

-- ## The words

module _ (outside : Outside) (words : List (List ℕ)) where
  shown_usage : (c : Option Command) (o : Outside) (text : List ℕ) (status : ℕ) → (c ≡ Some command.Check → ⊥) → (c ≡ Some command.Replay → ⊥) →
      (ShownFor c o words text status → Usage text status) × (Usage text status → ShownFor c o words text status)
  shown_usage None o text status isnt nor = (λ u. u, λ u. u)
  shown_usage (Some command.Check) o text status isnt nor = absurd (isnt refl)
  shown_usage (Some command.Replay) o text status isnt nor = absurd (nor refl)
  shown_usage (Some (command.Search b w)) o text status isnt nor = (λ u. u, λ u. u)
  shown_usage (Some command.Verify) o text status isnt nor = (λ u. u, λ u. u)
  shown_usage (Some (command.Gen n w)) o text status isnt nor = (λ u. u, λ u. u)

  pub for_usage : (command_of words ≡ Some command.Check → ⊥) → (command_of words ≡ Some command.Replay → ⊥) →
      (text : List ℕ) (status : ℕ) → text ≡ usage_line → status ≡ 2 → IsFor outside words text status
  for_usage isnt nor text status t s = record {
    shown = (shown_usage (command_of words) outside text status isnt nor).1 (t, s);
    only = λ known other number of. let u = (shown_usage (command_of words) (whatever_rose outside) other number isnt nor).0 of in (u.0 ∙ sym t, u.1 ∙ sym s);
  }

  module _ (so : command_of words ≡ Some command.Check) where
    pub for_check : (file : List ℕ) → file ≡ word_at words 1 → (text : List ℕ) (status : ℕ) → IsForCheck outside file text status → IsFor outside words text status
    for_check file f text status one = record {
      shown = subst (λ (c : Option Command). ShownFor c outside words text status) (sym so) here.shown;
      only = λ known other number of. here.only (subst (λ (c : Option Command). AreToldFor c outside words) so known) other number
          (subst (λ (c : Option Command). ShownFor c (whatever_rose outside) words other number) so of);
    }
      where
        here : IsForCheck outside (word_at words 1) text status
        here = subst (λ (x : List ℕ). IsForCheck outside x text status) f one

    pub fault_of_check : (file : List ℕ) → file ≡ word_at words 1 → outside.fault file → ReadFault outside words
    fault_of_check file f rose = subst (λ (c : Option Command). ReadFaultFor c outside words) (sym so) (subst outside.fault f rose)

  module _ (so : command_of words ≡ Some command.Replay) (file name run : List ℕ) (f : file ≡ word_at words 1) (n : name ≡ word_at words 2) (r : run ≡ word_at words 3) where
    pub for_replay : (text : List ℕ) (status : ℕ) → IsForReplay outside file name run text status → IsFor outside words text status
    for_replay text status one = record {
      shown = subst (λ (c : Option Command). ShownFor c outside words text status) (sym so) here.shown;
      only = λ known other number of. here.only (subst (λ (c : Option Command). AreToldFor c outside words) so known) other number
          (subst (λ (c : Option Command). ShownFor c (whatever_rose outside) words other number) so of);
    }
      where
        here : IsForReplay outside (word_at words 1) (word_at words 2) (word_at words 3) text status
        here = subst (λ (x : List ℕ). IsForReplay outside x (word_at words 2) (word_at words 3) text status) f
            (subst (λ (x : List ℕ). IsForReplay outside file x (word_at words 3) text status) n
            (subst (λ (x : List ℕ). IsForReplay outside file name x text status) r one))

    pub fault_of_replay : ReadFaultOf outside file name run → ReadFault outside words
    fault_of_replay fault = subst (λ (c : Option Command). ReadFaultFor c outside words) (sym so)
        (subst (λ (x : List ℕ). ReadFaultOf outside x (word_at words 2) (word_at words 3)) f
        (subst (λ (x : List ℕ). ReadFaultOf outside file x (word_at words 3)) n
        (subst (λ (x : List ℕ). ReadFaultOf outside file name x) r fault)))

-- a text that is for the words has one of the statuses with which texts are printed
pub told_status : (outside : Outside) (words : List (List ℕ)) (text : List ℕ) (status : ℕ) → IsFor outside words text status → is_told status ≡ true
told_status outside words text status is = shown_status outside words (command_of words) text status is.shown

-- ## What succeeds is told so

passes_told : (outside : Outside) (words : List (List ℕ)) (text : List ℕ) (status : ℕ) → IsFor outside words text status → AreTold outside words → ModulePasses outside words → status ≡ 0
passes_told outside words text status is known m =
    let line = passed_text m.source.name m.source.protocol in
    let checks : Checks (whatever_rose outside) (word_at words 1) line 0 = record {
      found = loaded.Read m.source;
      loaded = m.source_is;
      shown = record { failing = None; first = m.passes.no_fail; sound = m.passes.sound; line = refl };
    } in
    sym (is.only known line 0 (subst (λ (c : Option Command). ShownFor c (whatever_rose outside) words line 0) (sym m.command) checks)).1

reaches_told : (outside : Outside) (words : List (List ℕ)) (text : List ℕ) (status : ℕ) → IsFor outside words text status → AreTold outside words → RunReaches outside words → status ≡ 0
reaches_told outside words text status is known r =
    let of_run : OfRun (whatever_rose outside) (word_at words 3) r.source.protocol r.aim (codes "reaches\n") 0 = record {
      found = loaded.Read r.run;
      loaded = r.run_is;
      shown = record { answer = replay.Reaches; is_true = r.reaches; text_is = refl; status_is = refl };
    } in
    let replays : Replays (whatever_rose outside) (word_at words 1) (word_at words 2) (word_at words 3) (codes "reaches\n") 0 = record {
      found = loaded.Read r.source;
      loaded = r.source_is;
      shown = record {
        failing = None;
        first = r.passes.no_fail;
        shown = (r.passes.sound, subst (λ (o : Option Aim). AimAnswer o (whatever_rose outside) (word_at words 2) (word_at words 3) r.source.protocol (codes "reaches\n") 0) (sym r.aim_is) of_run);
      };
    } in
    sym (is.only known (codes "reaches\n") 0 (subst (λ (c : Option Command). ShownFor c (whatever_rose outside) words (codes "reaches\n") 0) (sym r.command) replays)).1

-- where the files' texts are known and the module passes or the run reaches the aim, this is what is told
pub succeeded_status : (outside : Outside) (words : List (List ℕ)) (text : List ℕ) (status : ℕ) → IsFor outside words text status → AreTold outside words → Succeeds outside words → status ≡ 0
succeeded_status outside words text status is known (inl m) = passes_told outside words text status is known m
succeeded_status outside words text status is known (inr r) = reaches_told outside words text status is known r

-- ## The status 0 tells of a success

other_status : {A : Type 0} (status n : ℕ) → status ≡ n → (n ≡ 0 → ⊥) → status ≡ 0 → A
other_status status n e isnt z = absurd (isnt (sym e ∙ z))

reaches_at : (protocol : Protocol) (aim : Aim) (run : Run) (answer : Replay) → IsTrueAnswer protocol aim run answer → answer_status answer ≡ 0 →
    OfNormalForms (theory_of protocol) (λ nf. Reaches nf protocol aim run)
reaches_at protocol aim run replay.Reaches is z = is
reaches_at protocol aim run (replay.Stops step why) is z = absurd (omega (arith, z))
reaches_at protocol aim run (replay.Misses part) is z = absurd (omega (arith, z))

module _ (outside : Outside) (words : List (List ℕ)) (text : List ℕ) (status : ℕ) (nought : status ≡ 0) where
  module _ (so : command_of words ≡ Some command.Check) where
    passes_line : (source : Source) → IsLoaded Reads outside (word_at words 1) (loaded.Read source) → (is : IsCheckLine source text status) → (o : Option CheckFail) → is.failing ≡ o → ModulePasses outside words
    passes_line source l is None e = record { source = source; command = so; source_is = l; passes = passes_where source is.failing e is.first is.sound }
    passes_line source l is (Some f) e =
        not_zero status (fail_told source f text status (subst (λ (o : Option CheckFail). told source o ≡ Some (text, status)) e is.line)) nought

    passed_file : (found : Loaded Source ReadError) → IsLoaded Reads outside (word_at words 1) found → FileAnswer found IsCheckLine text status → ModulePasses outside words
    passed_file loaded.TooLong l a = other_status status 7 a.1 (λ e. omega (arith, e)) nought
    passed_file (loaded.Refused error) l a = not_zero status (refusal_status error text status a) nought
    passed_file (loaded.Read source) l a = passes_line source l a a.failing refl

  module _ (so : command_of words ≡ Some command.Replay) where
    reached_run : (source : Source) (aim : Aim) → IsLoaded Reads outside (word_at words 1) (loaded.Read source) → PassesChecks source.protocol source.aims →
        aim_called (word_at words 2) source.aims ≡ Some aim → (found : Loaded Run RunTextFail) →
        IsLoaded (ReadsRun source.protocol) outside (word_at words 3) found → RunAnswer source.protocol aim found text status → RunReaches outside words
    reached_run source aim l p n loaded.TooLong r a = other_status status 7 a.1 (λ e. omega (arith, e)) nought
    reached_run source aim l p n (loaded.Refused f) r a = other_status status 9 a.1 (λ e. omega (arith, e)) nought
    reached_run source aim l p n (loaded.Read run) r a = record {
      source = source;
      aim = aim;
      run = run;
      command = so;
      source_is = l;
      passes = p;
      aim_is = n;
      run_is = r;
      reaches = reaches_at source.protocol aim run a.answer a.is_true (sym a.status_is ∙ nought);
    }

    reached_aim : (source : Source) → IsLoaded Reads outside (word_at words 1) (loaded.Read source) → PassesChecks source.protocol source.aims →
        (o : Option Aim) → aim_called (word_at words 2) source.aims ≡ o → AimAnswer o outside (word_at words 2) (word_at words 3) source.protocol text status → RunReaches outside words
    reached_aim source l p None e a = other_status status 3 a.1 (λ z. omega (arith, z)) nought
    reached_aim source l p (Some aim) e a = reached_run source aim l p e a.found a.loaded a.shown

    reached_checks : (source : Source) → IsLoaded Reads outside (word_at words 1) (loaded.Read source) → (failing : Option CheckFail) → IsFirstFail source.protocol source.aims failing →
        SourceAnswer source failing (λ t s. AimAnswer (aim_called (word_at words 2) source.aims) outside (word_at words 2) (word_at words 3) source.protocol t s) text status → RunReaches outside words
    reached_checks source l None first a = reached_aim source l (record { no_fail = first; sound = a.0 }) (aim_called (word_at words 2) source.aims) refl a.1
    reached_checks source l (Some f) first a = not_zero status (fail_told source f text status a) nought

    reached_file : (found : Loaded Source ReadError) → IsLoaded Reads outside (word_at words 1) found →
        FileAnswer found (SourceReplays outside (word_at words 2) (word_at words 3)) text status → RunReaches outside words
    reached_file loaded.TooLong l a = other_status status 7 a.1 (λ e. omega (arith, e)) nought
    reached_file (loaded.Refused error) l a = not_zero status (refusal_status error text status a) nought
    reached_file (loaded.Read source) l a = reached_checks source l a.failing a.first a.shown

  succeeds_by : (c : Option Command) → command_of words ≡ c → ShownFor c outside words text status → Succeeds outside words
  succeeds_by None so u = other_status status 2 u.1 (λ e. omega (arith, e)) nought
  succeeds_by (Some command.Check) so of = inl (passed_file so of.found of.loaded of.shown)
  succeeds_by (Some command.Replay) so of = inr (reached_file so of.found of.loaded of.shown)
  succeeds_by (Some (command.Search b w)) so u = other_status status 2 u.1 (λ e. omega (arith, e)) nought
  succeeds_by (Some command.Verify) so u = other_status status 2 u.1 (λ e. omega (arith, e)) nought
  succeeds_by (Some (command.Gen n w)) so u = other_status status 2 u.1 (λ e. omega (arith, e)) nought

-- the status 0 comes of a module that passes, or of a run that reaches the aim
pub told_succeeds : (outside : Outside) (words : List (List ℕ)) (text : List ℕ) (status : ℕ) → IsFor outside words text status → status ≡ 0 → Succeeds outside words
told_succeeds outside words text status is z = succeeds_by outside words text status z (command_of words) refl is.shown
