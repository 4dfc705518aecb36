-- One text and one status follow from a run's file, where what it holds is known.
use Rattle.std.proofs.Common.{◌≡◌, ℕ, List, Option, Some, Result, Ok, Err, refl, sym, ap, subst, ◌∙◌, ◌≤◌, length, arith}
use Rattle.std.specs.Prelude.{IfOk}
use Rattle.npa_term.specs.declared.error.NoMemory.{NoMemory}
use Rattle.npa_sig.specs.declared.protocol.Protocol.{Protocol}
use Rattle.npa_sig.specs.WellFormed.{IsPlainProtocol}
use Rattle.npa_rewrite.specs.Innermost.{normalized}
use Rattle.npa_rewrite.specs.Rewriting.{AllCancel, IsConvergent}
use Rattle.npa_rewrite.proofs.Normalized.{gives_forms}
use Rattle.npa_model.specs.declared.aim.Aim.{Aim}
use Rattle.npa_model.specs.declared.run.Run.{Run}
use Rattle.npa_model.specs.WellFormed.{IsWellFormedRun}
use Rattle.npa_replay.specs.declared.answer.Replay.{Replay}
use Rattle.npa_outside.specs.declared.lines.Printed.{Printed}
use Rattle.npa_outside.specs.declared.loading.Loaded.{Loaded}
use Rattle.npa_outside.specs.declared.loading.Loaded.TheVariants as loaded
use Rattle.npa_outside.specs.Lines.{limit_bytes}
use Rattle.npa_outside.specs.Loads.{LoadsText, LoadsTextAlone, IsLoaded, IfRead, OnTooLong}
use Rattle.npa_outside.specs.Outside.{Outside, whatever_rose, IsOnly, IsTold}
use Rattle.npa_outside.proofs.FileLoads.{is_loaded, only_loaded, moved, if_read}
use Rattle.npa_run_text.specs.declared.fault.RunTextFail.{RunTextFail}
use Rattle.npa_run_text.specs.RunTexts.{ReadsRun}
use Rattle.npa_replaying.specs.Lines.{invalid, answer_text, answer_status}
use Rattle.npa_rewrite.specs.Theories.{theory_of}
use Rattle.npa_replaying.specs.Replaying.{IsTrueAnswer, IsOnlyAnswer, Replayed, RunAnswer, OfRun, IsForRun}

-- ## A replay

-- one answer is true of a run, so one text and one status are for it
only_replayed : (protocol : Protocol) (aim : Aim) (run : Run) (answer : Replay) (text : List ℕ) (status : ℕ) →
    AllCancel (theory_of protocol) → IsConvergent (theory_of protocol) → IsOnlyAnswer protocol aim run answer →
    text ≡ answer_text protocol run answer → status ≡ answer_status answer → IsOnly (Replayed protocol aim run) text status
only_replayed protocol aim run answer text status cancel convergent one t s = λ other number r.
    let th = theory_of protocol in
    let gives = gives_forms th cancel convergent in
    let same = one (normalized th) gives r.answer (r.is_true (normalized th) gives) in
    (r.text_is ∙ ap (answer_text protocol run) same ∙ sym t, r.status_is ∙ ap answer_status same ∙ sym s)

module _ (protocol seen : Protocol) (same : seen ≡ protocol) (aim : Aim) (run : Run) (answer : Replay) where
  -- the text for a true answer
  pub is_replayed : (r : Result Printed NoMemory) → IsTrueAnswer protocol aim run answer →
      IfOk r (λ a. a.text.items ≡ answer_text seen run answer) → IfOk r (λ a. a.status ≡ answer_status answer) → IfOk r (λ a. Replayed protocol aim run a.text.items a.status)
  is_replayed (Ok a) true_of t s = record {
    answer = answer;
    is_true = true_of;
    text_is = t ∙ ap (λ (p : Protocol). answer_text p run answer) same;
    status_is = s;
  }
  is_replayed (Err e) true_of t s = tt

  -- and no other
  pub is_only : (r : Result Printed NoMemory) → AllCancel (theory_of protocol) → IsConvergent (theory_of protocol) → IsOnlyAnswer protocol aim run answer →
      IfOk r (λ a. a.text.items ≡ answer_text seen run answer) → IfOk r (λ a. a.status ≡ answer_status answer) →
      IfOk r (λ a. IsOnly (Replayed protocol aim run) a.text.items a.status)
  is_only (Ok a) cancel convergent one t s =
      only_replayed protocol aim run answer a.text.items a.status cancel convergent one (t ∙ ap (λ (p : Protocol). answer_text p run answer) same) s
  is_only (Err e) cancel convergent one t s = tt

-- ## The protocol that is read by

pub few_strands : (protocol seen : Protocol) → seen ≡ protocol → IsPlainProtocol protocol → length seen.strands ≤ 65535
few_strands protocol seen same plain = subst (λ (p : Protocol). length p.strands ≤ 65535) (sym same) (let few = plain.few_strands in omega (arith, few))

pub form_read : (protocol seen : Protocol) → seen ≡ protocol → (found : Loaded Run RunTextFail) (run : Run) → found ≡ loaded.Read run →
    IfRead found (IsWellFormedRun seen.sig) → IsWellFormedRun protocol.sig run
form_read protocol seen same found run e form = subst (λ (p : Protocol). IsWellFormedRun p.sig run) same (if_read found (IsWellFormedRun seen.sig) run form e)

-- ## A run's file

one_some : {S : Type 0} (o : Option S) (s t : S) → o ≡ Some s → o ≡ Some t → t ≡ s
one_some o s t e f = cc

module _ (outside : Outside) (name : List ℕ) (protocol : Protocol) (aim : Aim) (found : Loaded Run RunTextFail)
    (is : LoadsText (ReadsRun protocol) (outside.told name) found)
    (others : LoadsTextAlone (ReadsRun protocol) (outside.told name) found) (long : OnTooLong found (outside.long name)) where
  from_loaded : (l : Loaded Run RunTextFail) → found ≡ l → (text : List ℕ) (status : ℕ) → RunAnswer protocol aim l text status →
      IsOnly (RunAnswer protocol aim l) text status → IsForRun outside name protocol aim text status
  from_loaded l e text status shown only = record {
    shown = record {
      found = found;
      loaded = is_loaded (ReadsRun protocol) outside name found is long;
      shown = subst (λ (x : Loaded Run RunTextFail). RunAnswer protocol aim x text status) (sym e) shown;
    };
    only = λ known other number of.
        only other number
        (subst (λ (x : Loaded Run RunTextFail). RunAnswer protocol aim x other number)
        (only_loaded (ReadsRun protocol) outside name found is others known of.found of.loaded ∙ e) of.shown);
  }

  pub for_long_run : (text : List ℕ) (status : ℕ) → found ≡ loaded.TooLong → text ≡ limit_bytes → status ≡ 7 → IsForRun outside name protocol aim text status
  for_long_run text status e t s = from_loaded loaded.TooLong e text status (t, s) (λ other number a. (a.0 ∙ sym t, a.1 ∙ sym s))

  pub for_refused_run : (fail : RunTextFail) (text : List ℕ) (status : ℕ) → found ≡ loaded.Refused fail → invalid fail ≡ Some text → status ≡ 9 → IsForRun outside name protocol aim text status
  for_refused_run fail text status e line s =
      from_loaded (loaded.Refused fail) e text status (line, s) (λ other number a. (one_some (invalid fail) text other line a.0, a.1 ∙ sym s))

  pub for_replayed : (run : Run) (text : List ℕ) (status : ℕ) → found ≡ loaded.Read run → Replayed protocol aim run text status → IsOnly (Replayed protocol aim run) text status →
      IsForRun outside name protocol aim text status
  for_replayed run text status e shown only = from_loaded (loaded.Read run) e text status shown only

-- What follows from a run's file follows from it also where what lies outside is seen from further back.
module _ (near far : Outside) (name : List ℕ) (protocol : Protocol) (aim : Aim) (same : near.told name ≡ far.told name) (since : near.long name → far.long name) where
  pub moved_run : (text : List ℕ) (status : ℕ) → IsForRun near name protocol aim text status → IsForRun far name protocol aim text status
  moved_run text status one = record {
    shown = record { found = one.shown.found; loaded = moved (ReadsRun protocol) near far name same since one.shown.found one.shown.loaded; shown = one.shown.shown };
    only = λ known other number of.
        one.only (known.0, same ∙ known.1) other number
        (record { found = of.found; loaded = moved (ReadsRun protocol) (whatever_rose far) (whatever_rose near) name (sym same) (λ u. u) of.found of.loaded; shown = of.shown });
  }
