-- What is answered of a module's file and of its checks, by where it stops.
use Rattle.std.specs.Prelude.{◌≡◌, ℕ, List, Option, None, Some, IfNone}
use Rattle.npa_sig.specs.declared.protocol.Protocol.{Protocol}
use Rattle.npa_model.specs.declared.aim.Aim.{Aim}
use Rattle.npa_module.specs.declared.source.Source.{Source}
use Rattle.npa_module.specs.declared.source.ReadError.{ReadError}
use Rattle.npa_module.specs.Modules.{Reads}
use Rattle.npa_outside.specs.declared.loading.Loaded.{Loaded}
use Rattle.npa_outside.specs.declared.loading.Loaded.TheVariants as loaded
use Rattle.npa_outside.specs.Lines.{limit_bytes}
use Rattle.npa_outside.specs.Loads.{IsLoaded}
use Rattle.npa_outside.specs.Outside.{Outside}
use Rattle.npa_close.specs.declared.fail.CheckFail.{CheckFail}
use Rattle.npa_close.specs.Checks.{IsFirstFail, IsSound}
use Rattle.npa_checking.specs.Lines.{fail_line}
use Rattle.npa_answers.specs.Lines.{refusal}

-- ## The file

-- Of a module that is read, the rest is said; of a file that holds none, its line is told.
abbrev pub FileAnswer : Loaded Source ReadError → (Source → List ℕ → ℕ → Type 0) → List ℕ → ℕ → Type 0
FileAnswer loaded.TooLong Rest text status = (text ≡ limit_bytes) × (status ≡ 7)
FileAnswer (loaded.Refused error) Rest text status = refusal error ≡ Some (text, status)
FileAnswer (loaded.Read source) Rest text status = Rest source text status

pub record OfFile (outside : Outside) (file : List ℕ) (Rest : Source → List ℕ → ℕ → Type 0) (text : List ℕ) (status : ℕ) : Type 0 where
  pub found : Loaded Source ReadError
  pub loaded : IsLoaded Reads outside file found
  pub shown : FileAnswer found Rest text status

-- ## The checks

-- No check fails, and what the checks are for holds.
pub record PassesChecks (protocol : Protocol) (aims : List Aim) : Type 0 where
  pub no_fail : IsFirstFail protocol aims None
  pub sound : IsSound protocol aims

-- Of a module that passes its checks, the rest is said; of one that doesn't, the line of the first check
-- that fails is told.
abbrev pub SourceAnswer : Source → Option CheckFail → (List ℕ → ℕ → Type 0) → List ℕ → ℕ → Type 0
SourceAnswer source (Some fail) Rest text status = fail_line source fail ≡ Some (text, status)
SourceAnswer source None Rest text status = IsSound source.protocol source.aims × Rest text status

pub record OfSource (source : Source) (Rest : List ℕ → ℕ → Type 0) (text : List ℕ) (status : ℕ) : Type 0 where
  pub failing : Option CheckFail
  pub first : IsFirstFail source.protocol source.aims failing
  pub shown : SourceAnswer source failing Rest text status
