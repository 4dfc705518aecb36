-- What is told of a module that is checked.
use Rattle.std.specs.Prelude.{◌≡◌, ℕ, List, Option, None, Some, IfNone}
use Rattle.npa_close.specs.declared.fail.CheckFail.{CheckFail}
use Rattle.npa_close.specs.Checks.{IsFirstFail, IsSound}
use Rattle.npa_module.specs.declared.source.Source.{Source}
use Rattle.npa_checking.specs.Lines.{fail_line, passed_text}

-- The text and the status of the first check that fails, or of a module of which all hold.
abbrev pub told : Source → Option CheckFail → Option (List ℕ × ℕ)
told source None = Some (passed_text source.name source.protocol, 0)
told source (Some fail) = fail_line source fail

-- This text, with this status, tells of the first check of a module that fails, or that all hold; and where
-- all hold, the theory is convergent and the aims are accepted.
pub record IsCheckLine (source : Source) (text : List ℕ) (status : ℕ) : Type 0 where
  pub failing : Option CheckFail
  pub first : IsFirstFail source.protocol source.aims failing
  pub sound : IfNone failing (IsSound source.protocol source.aims)
  pub line : told source failing ≡ Some (text, status)
