-- The text for an aim's name and a run's file, and that no other is where the file is known.
use Rattle.std.proofs.Common.{◌≡◌, ℕ, ◌≤◌, List, Option, None, Some, Result, Ok, Err, refl, sym, ap, subst, ◌∙◌, slice_get, Bor}
use Rattle.std.specs.Prelude.{IfOk, not, ◌&&◌, nat_eq, length}
use Rattle.std.specs.List.{position_or_len}
use Rattle.std.specs.Option.{option_copied}
use Rattle.std.specs.Str.{bytes_eq}
use Rattle.std.proofs.lemmas.List.Folds.{find_at}
use Rattle.npa_sig.specs.declared.protocol.Protocol.{Protocol}
use Rattle.npa_rewrite.specs.Theories.{theory_of}
use Rattle.npa_model.specs.declared.aim.Aim.{Aim}
use Rattle.npa_model.specs.Accepted.{IsAccepted}
use Rattle.npa_model.specs.WellFormed.{IsWellFormedAim}
use Rattle.npa_module.specs.declared.source.Source.{Source}
use Rattle.npa_module.specs.declared.source.ReadError.{ReadError}
use Rattle.npa_module.specs.Modules.{Reads}
use Rattle.npa_module.specs.Forms.{IsWellFormedSource}
use Rattle.npa_outside.specs.declared.lines.Printed.{Printed}
use Rattle.npa_outside.specs.declared.loading.Loaded.{Loaded}
use Rattle.npa_outside.specs.declared.loading.Loaded.TheVariants as loaded
use Rattle.npa_outside.specs.Loads.{LoadsText, LoadsTextAlone, IsLoaded, OnTooLong}
use Rattle.npa_outside.specs.declared.loading.Halt.{Halt}
use Rattle.npa_outside.specs.Outside.{Outside, whatever_rose, IsOnly, IsTold, IsTheOne}
use Rattle.npa_outside.proofs.FileLoads.{moved}
use Rattle.npa_run_text.specs.RunTexts.{ReadsRun}
use Rattle.npa_close.specs.declared.fail.CheckFail.{CheckFail}
use Rattle.npa_close.specs.declared.fail.CheckFail.TheVariants as fail
use Rattle.npa_close.specs.Checks.{IsChecked, IsFirstFail, IsSound, aim_called}
use Rattle.npa_checking.specs.Lines.{fail_line}
use Rattle.npa_replaying.specs.Replaying.{OfRun, IsForRun}
use Rattle.npa_answers.specs.Lines.{refused_no_aim}
use Rattle.npa_answers.specs.Modules.{PassesChecks, SourceAnswer, OfSource}
use Rattle.npa_answers.specs.Answers.{AimAnswer, AimReplays, SourceReplays, AimIsTold, SourceIsTold, AreToldOf, IsForAim, IsForSource, IsForReplay, AimFault, SourceFault, ReadFaultOf, second}
use Rattle.npa_answers.proofs.Sources.{for_read, for_fail, for_passed, source_loaded}

-- ## The aim

-- the aim that was found, or that none was
pub found_aim : (r : Option (Bor Aim)) (name at : List ℕ) (aims : List Aim) → option_copied r ≡ aim_called name aims → name ≡ at → aim_called at aims ≡ option_copied r
found_aim r name at aims is same = sym (subst (λ n. option_copied r ≡ aim_called n aims) same is)

-- what holds of each of the aims holds of the one of a name
of_called : (P : Aim → Type 0) (name : List ℕ) (aims : List Aim) (aim : Aim) → ((k : ℕ) (a : Aim) → slice_get aims k ≡ Some a → P a) →
    aim_called name aims ≡ Some aim → P aim
of_called P name aims aim each is =
    each (position_or_len (λ a. not (nat_eq (length name) 0) && bytes_eq a.name name) aims) aim
    (sym (find_at (λ a. not (nat_eq (length name) 0) && bytes_eq a.name name) aims) ∙ is)

-- so it is well formed, and accepted
pub good_called : (protocol ready : Protocol) (aims : List Aim) (name : List ℕ) (aim : Aim) → ready ≡ protocol →
    ((k : ℕ) (a : Aim) → slice_get aims k ≡ Some a → IsWellFormedAim protocol.sig protocol.strands a) → aim_called name aims ≡ Some aim →
    IsWellFormedAim ready.sig ready.strands aim
good_called protocol ready aims name aim same each is =
    subst (λ (p : Protocol). IsWellFormedAim p.sig p.strands aim) (sym same) (of_called (IsWellFormedAim protocol.sig protocol.strands) name aims aim each is)

pub accepted_called : (protocol ready : Protocol) (aims : List Aim) (name : List ℕ) (aim : Aim) → ready ≡ protocol → IsSound protocol aims → aim_called name aims ≡ Some aim →
    IsAccepted (theory_of ready) aim
accepted_called protocol ready aims name aim same sound is =
    subst (λ (p : Protocol). IsAccepted (theory_of p) aim) (sym same) (of_called (IsAccepted (theory_of protocol)) name aims aim sound.accepted is)

-- ## The text

module _ (outside : Outside) (name run : List ℕ) (protocol : Protocol) (aims : List Aim) (text : List ℕ) (status : ℕ) where
  pub for_no_aim : aim_called name aims ≡ None → text ≡ refused_no_aim name → status ≡ 3 → IsForAim outside name run protocol aims text status
  for_no_aim none t s = record {
    shown = subst (λ (o : Option Aim). AimAnswer o outside name run protocol text status) (sym none) (t, s);
    only = λ known other number of.
        let line : (other ≡ refused_no_aim name) × (number ≡ 3) = subst (λ (o : Option Aim). AimAnswer o (whatever_rose outside) name run protocol other number) none of in
        (line.0 ∙ sym t, line.1 ∙ sym s);
  }

  pub for_run : (aim : Aim) → aim_called name aims ≡ Some aim → IsForRun outside run protocol aim text status → IsForAim outside name run protocol aims text status
  for_run aim named one = record {
    shown = subst (λ (o : Option Aim). AimAnswer o outside name run protocol text status) (sym named) one.shown;
    only = λ known other number of. one.only (known aim named) other number
        (subst (λ (o : Option Aim). AimAnswer o (whatever_rose outside) name run protocol other number) named of);
  }

-- ## Seen from further back

module _ (near far : Outside) (name run : List ℕ) (same : near.told run ≡ far.told run) (since : near.long run → far.long run) where
  moved_aim : (protocol : Protocol) (o : Option Aim) (text : List ℕ) (status : ℕ) → AimAnswer o near name run protocol text status → AimAnswer o far name run protocol text status
  moved_aim protocol None text status a = a
  moved_aim protocol (Some aim) text status of = record {
    found = of.found;
    loaded = moved (ReadsRun protocol) near far run same since of.found of.loaded;
    shown = of.shown;
  }

  moved_checks : (source : Source) (failing : Option CheckFail) (text : List ℕ) (status : ℕ) →
      SourceAnswer source failing (AimReplays near name run source.protocol source.aims) text status →
      SourceAnswer source failing (AimReplays far name run source.protocol source.aims) text status
  moved_checks source (Some fail) text status line = line
  moved_checks source None text status a = (a.0, moved_aim source.protocol (aim_called name source.aims) text status a.1)

  moved_replays : (source : Source) (text : List ℕ) (status : ℕ) → SourceReplays near name run source text status → SourceReplays far name run source text status
  moved_replays source text status of = record { failing = of.failing; first = of.first; shown = moved_checks source of.failing text status of.shown }

told_near : (near far : Outside) (name run : List ℕ) (source : Source) → near.told run ≡ far.told run → SourceIsTold far name run source → SourceIsTold near name run source
told_near near far name run source same known = λ passes aim named. let at = known passes aim named in (at.0, same ∙ at.1)

-- What is for a module that is read, while a run's file is read, is so from before the module was read.
pub moved_source : (near far : Outside) (name run : List ℕ) (source : Source) → near.told run ≡ far.told run → (near.long run → far.long run) →
    (text : List ℕ) (status : ℕ) → IsForSource near name run source text status → IsForSource far name run source text status
moved_source near far name run source same since text status one = record {
  shown = moved_replays near far name run same since source text status one.shown;
  only = λ known other number of. one.only (told_near near far name run source same known) other number
      (moved_replays (whatever_rose far) (whatever_rose near) name run (sym same) (λ u. u) source other number of);
}

-- ## A module that passes its checks

-- what was checked is the module's
pub is_checked : (r : Result (Protocol × List Aim) CheckFail) (checked : Protocol × List Aim) (source : Source) → r ≡ Ok checked → IsChecked r source.protocol source.aims → checked ≡ (source.protocol, source.aims)
is_checked r checked source e is = (subst (λ (x : Result (Protocol × List Aim) CheckFail). IsChecked x source.protocol source.aims) e is).0

-- a check that fails is the first, where there is a line for it
first_fail : (source : Source) (r : CheckFail) (text : List ℕ) (status : ℕ) → IsChecked (Err r) source.protocol source.aims → fail_line source r ≡ Some (text, status) →
    IsFirstFail source.protocol source.aims (Some r)
first_fail source (fail.Inhabited sort) text status is line = is
first_fail source (fail.Ground sort symbols) text status is line = is
first_fail source (fail.Conv f) text status is line = is
first_fail source (fail.Ready f) text status is line = is
first_fail source (fail.AimForm aim term equation) text status is line = is
first_fail source fail.NoMemory text status is line = absurd (cc)

pub by_fail : (outside : Outside) (name run : List ℕ) (source : Source) (r : Result (Protocol × List Aim) CheckFail) (f : CheckFail) → r ≡ Err f → IsChecked r source.protocol source.aims →
    (text : List ℕ) (status : ℕ) → fail_line source f ≡ Some (text, status) → IsForSource outside name run source text status
by_fail outside name run source r f e is text status line =
    for_fail source (AimReplays outside name run source.protocol source.aims) (AimReplays (whatever_rose outside) name run source.protocol source.aims)
    (SourceIsTold outside name run source) text status f
    (first_fail source f text status (subst (λ (x : Result (Protocol × List Aim) CheckFail). IsChecked x source.protocol source.aims) e is) line) line

pub good_aims : (source : Source) (checked : Protocol × List Aim) → checked ≡ (source.protocol, source.aims) → IsWellFormedSource source →
    (k : ℕ) (aim : Aim) → slice_get checked.1 k ≡ Some aim → IsWellFormedAim checked.0.sig checked.0.strands aim
good_aims source checked e form =
    subst (λ (c : Protocol × List Aim). (k : ℕ) (aim : Aim) → slice_get c.1 k ≡ Some aim → IsWellFormedAim c.0.sig c.0.strands aim) (sym e) form.aims

module _ (source : Source) (checked : Protocol × List Aim) (e : checked ≡ (source.protocol, source.aims))
    (passes : IsFirstFail checked.0 checked.1 None) (sound : IsSound checked.0 checked.1) where
  it_passes : PassesChecks source.protocol source.aims
  it_passes = subst (λ (c : Protocol × List Aim). PassesChecks c.0 c.1) e (record { no_fail = passes; sound = sound })

  module _ (outside : Outside) (name run : List ℕ) where
    pub by_aim : (text : List ℕ) (status : ℕ) → IsForAim outside name run checked.0 checked.1 text status → IsForSource outside name run source text status
    by_aim text status one =
        let here : IsForAim outside name run source.protocol source.aims text status = subst (λ (c : Protocol × List Aim). IsForAim outside name run c.0 c.1 text status) e one in
        for_passed source (AimReplays outside name run source.protocol source.aims) (AimReplays (whatever_rose outside) name run source.protocol source.aims)
        (SourceIsTold outside name run source) text status it_passes here.shown (λ known. here.only (known it_passes))

    pub fault_by_aim : AimFault outside name run checked.1 → SourceFault outside name run source
    fault_by_aim fault = record { passes = it_passes; second = subst (λ (c : Protocol × List Aim). AimFault outside name run c.1) e fault }

-- ## A module's file

module _ (near far : Outside) (file name run : List ℕ) (found : Loaded Source ReadError) (source : Source) (e : found ≡ loaded.Read source)
    (is : LoadsText Reads (far.told file) found) where
  not_long : OnTooLong found (far.long file)
  not_long = subst (λ (l : Loaded Source ReadError). OnTooLong l (far.long file)) (sym e) tt

  it_is : IsLoaded Reads far file (loaded.Read source)
  it_is = source_loaded far file found source e is not_long

  pub by_source : LoadsTextAlone Reads (far.told file) found → near.told run ≡ far.told run → (near.long run → far.long run) →
      (text : List ℕ) (status : ℕ) → IsForSource near name run source text status → IsForReplay far file name run text status
  by_source others same since text status one =
      let here : IsForSource far name run source text status = moved_source near far name run source same since text status one in
      for_read far file (SourceReplays far name run) (SourceReplays (whatever_rose far) name run) (AreToldOf far file name run) (λ known. known.module_told)
      found is others not_long text status source e here.shown (λ known. here.only (known.source_told source it_is))

  pub fault_by_source : (near.fault run → far.fault run) → SourceFault near name run source → ReadFaultOf far file name run
  fault_by_source since fault = second source it_is (record { passes = fault.passes; second = record { aim = fault.second.aim; aim_is = fault.second.aim_is; rose = since fault.second.rose } })

-- ## What comes of a call

-- what follows from an answer, where there is one
pub of_answer : (r : Result Printed Halt) (P Q : List ℕ → ℕ → Type 0) → ((text : List ℕ) (status : ℕ) → P text status → Q text status) →
    IfOk r (λ a. P a.text.items a.status) → IfOk r (λ a. Q a.text.items a.status)
of_answer (Ok a) P Q more p = more a.text.items a.status p
of_answer (Err e) P Q more p = tt
