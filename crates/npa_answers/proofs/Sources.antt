-- The text for a module's file and for its checks, and that no other is where the file is known.
use Rattle.std.proofs.Common.{◌≡◌, ℕ, List, Option, None, Some, Result, Ok, Err, refl, sym, ap, subst, ◌∙◌}
use Rattle.npa_module.specs.declared.source.Source.{Source}
use Rattle.npa_module.specs.declared.source.ReadError.{ReadError}
use Rattle.npa_module.specs.Modules.{Reads}
use Rattle.npa_outside.specs.declared.loading.Loaded.{Loaded}
use Rattle.npa_outside.specs.declared.loading.Loaded.TheVariants as loaded
use Rattle.npa_outside.specs.Lines.{limit_bytes}
use Rattle.npa_outside.specs.Loads.{LoadsText, LoadsTextAlone, IsLoaded, OnTooLong}
use Rattle.npa_outside.specs.Outside.{Outside, whatever_rose, IsOnly, IsTold, IsTheOne}
use Rattle.npa_outside.proofs.FileLoads.{is_loaded, only_loaded}
use Rattle.npa_close.specs.declared.fail.CheckFail.{CheckFail}
use Rattle.npa_close.specs.Checks.{IsFirstFail, IsSound}
use Rattle.npa_close.proofs.OneFail.{one_first}
use Rattle.std.specs.Prelude.{IfNone}
use Rattle.npa_checking.specs.Lines.{fail_line}
use Rattle.npa_checking.specs.Checking.{IsCheckLine}
use Rattle.npa_checking.proofs.OneLine.{one_line as one_check}
use Rattle.npa_answers.specs.Lines.{refusal}
use Rattle.npa_answers.specs.Modules.{FileAnswer, OfFile, PassesChecks, SourceAnswer, OfSource}

-- the member of an option
pub the_same : {A : Type 0} {x y : A} → Some x ≡ Some y → y ≡ x
the_same e = cc

pub one_line : (o : Option (List ℕ × ℕ)) (text other : List ℕ) (status number : ℕ) → o ≡ Some (text, status) → o ≡ Some (other, number) → (other ≡ text) × (number ≡ status)
one_line o text other status number e f =
    let same : (other, number) ≡ (text, status) = the_same (sym e ∙ f) in
    (ap (λ (p : List ℕ × ℕ). p.0) same, ap (λ (p : List ℕ × ℕ). p.1) same)

-- ## The file

-- The text by what is loaded of a file is for it, where `Rest` and `Anyhow` say what is for a module that
-- is read.
module _ (outside : Outside) (file : List ℕ) (Rest Anyhow : Source → List ℕ → ℕ → Type 0) (known : Type 0)
    (told : known → IsTold outside file) (found : Loaded Source ReadError)
    (is : LoadsText Reads (outside.told file) found) (others : LoadsTextAlone Reads (outside.told file) found)
    (long : OnTooLong found (outside.long file)) (text : List ℕ) (status : ℕ) where
  abbrev pub IsForFile : Type 0
  IsForFile = IsTheOne known (OfFile outside file Rest) (OfFile (whatever_rose outside) file Anyhow) text status

  from_loaded : (l : Loaded Source ReadError) → found ≡ l → FileAnswer l Rest text status →
      (known → IsOnly (FileAnswer l Anyhow) text status) → IsForFile
  from_loaded l e shown only = record {
    shown = record {
      found = found;
      loaded = is_loaded Reads outside file found is long;
      shown = subst (λ (x : Loaded Source ReadError). FileAnswer x Rest text status) (sym e) shown;
    };
    only = λ k other number of.
        only k other number
        (subst (λ (x : Loaded Source ReadError). FileAnswer x Anyhow other number)
        (only_loaded Reads outside file found is others (told k) of.found of.loaded ∙ e) of.shown);
  }

  pub for_long : found ≡ loaded.TooLong → text ≡ limit_bytes → status ≡ 7 → IsForFile
  for_long e t s = from_loaded loaded.TooLong e (t, s) (λ k other number a. (a.0 ∙ sym t, a.1 ∙ sym s))

  pub for_refused : (error : ReadError) → found ≡ loaded.Refused error → refusal error ≡ Some (text, status) → IsForFile
  for_refused error e line = from_loaded (loaded.Refused error) e line (λ k other number a. one_line (refusal error) text other status number line a)

  pub for_read : (source : Source) → found ≡ loaded.Read source → Rest source text status →
      (known → IsOnly (Anyhow source) text status) → IsForFile
  for_read source e shown only = from_loaded (loaded.Read source) e shown only

-- what was read is what the file holds
pub source_loaded : (outside : Outside) (file : List ℕ) (found : Loaded Source ReadError) (source : Source) → found ≡ loaded.Read source →
    LoadsText Reads (outside.told file) found → OnTooLong found (outside.long file) → IsLoaded Reads outside file (loaded.Read source)
source_loaded outside file found source e is long = subst (IsLoaded Reads outside file) e (is_loaded Reads outside file found is long)

-- ## The checks

-- The text by the first check that fails is for the module, where `Rest` and `Anyhow` say what is for one
-- that passes.
module _ (source : Source) (Rest Anyhow : List ℕ → ℕ → Type 0) (known : Type 0) (text : List ℕ) (status : ℕ) where
  abbrev pub IsForChecks : Type 0
  IsForChecks = IsTheOne known (OfSource source Rest) (OfSource source Anyhow) text status

  from_checks : (failing : Option CheckFail) → IsFirstFail source.protocol source.aims failing → SourceAnswer source failing Rest text status →
      (known → IsOnly (SourceAnswer source failing Anyhow) text status) → IsForChecks
  from_checks failing first shown only = record {
    shown = record { failing = failing; first = first; shown = shown };
    only = λ k other number of.
        only k other number
        (subst (λ (o : Option CheckFail). SourceAnswer source o Anyhow other number)
        (one_first source.protocol source.aims failing of.failing first of.first) of.shown);
  }

  pub for_fail : (fail : CheckFail) → IsFirstFail source.protocol source.aims (Some fail) → fail_line source fail ≡ Some (text, status) → IsForChecks
  for_fail fail first line = from_checks (Some fail) first line (λ k other number a. one_line (fail_line source fail) text other status number line a)

  pub for_passed : PassesChecks source.protocol source.aims → Rest text status → (known → IsOnly Anyhow text status) → IsForChecks
  for_passed passes shown only = from_checks None passes.no_fail (passes.sound, shown) (λ k other number a. only k other number a.1)

-- ## The line of the checks

-- one line tells of the checks of a module
pub one_check_line : (source : Source) (text : List ℕ) (status : ℕ) → IsCheckLine source text status → IsOnly (IsCheckLine source) text status
one_check_line source text status is = λ other number also. one_check source other text number status also is

-- the checks are passed where none fails
pub passes_where : (source : Source) (failing : Option CheckFail) → failing ≡ None → IsFirstFail source.protocol source.aims failing →
    IfNone failing (IsSound source.protocol source.aims) → PassesChecks source.protocol source.aims
passes_where source failing none first sound = record {
  no_fail = subst (IsFirstFail source.protocol source.aims) none first;
  sound = subst (λ (o : Option CheckFail). IfNone o (IsSound source.protocol source.aims)) none sound;
}
