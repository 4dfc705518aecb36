-- What is told of a module, by what its checks answer.
use Rattle.std.proofs.Common.{◌≡◌, ℕ, None, Some, Err, List, sym, ap, subst, ◌∙◌}
use Rattle.npa_sig.specs.declared.protocol.Protocol.{Protocol}
use Rattle.npa_model.specs.declared.aim.Aim.{Aim}
use Rattle.npa_close.specs.declared.fail.CheckFail.{CheckFail}
use Rattle.npa_close.specs.declared.fail.CheckFail.TheVariants as fail
use Rattle.npa_close.specs.Checks.{IsChecked, IsFirstFail, IsSound}
use Rattle.npa_module.specs.declared.source.Source.{Source}
use Rattle.npa_checking.specs.Lines.{fail_line, passed_text}
use Rattle.npa_checking.specs.Checking.{IsCheckLine}

module _ (source : Source) (text : List ℕ) (status : ℕ) where
  pub passes : (checked : Protocol × List Aim) → checked ≡ (source.protocol, source.aims) → IsFirstFail source.protocol source.aims None →
      IsSound checked.0 checked.1 → text ≡ passed_text source.name checked.0 → status ≡ 0 → IsCheckLine source text status
  passes checked same first sound line zero = record {
    failing = None;
    first = first;
    sound = subst (λ (p : Protocol × List Aim). IsSound p.0 p.1) same sound;
    line = λ j. Some (sym (line ∙ ap (λ (p : Protocol × List Aim). passed_text source.name p.0) same) j, sym zero j);
  }

  failed : (f : CheckFail) → IsFirstFail source.protocol source.aims (Some f) → fail_line source f ≡ Some (text, status) → IsCheckLine source text status
  failed f first line = record { failing = Some f; first = first; sound = tt; line = line }

  pub fails : (f : CheckFail) → IsChecked (Err f) source.protocol source.aims → fail_line source f ≡ Some (text, status) → IsCheckLine source text status
  fails (fail.Inhabited s) is line = failed (fail.Inhabited s) is line
  fails (fail.Ground s n) is line = failed (fail.Ground s n) is line
  fails (fail.Conv fault) is line = failed (fail.Conv fault) is line
  fails (fail.Ready fault) is line = failed (fail.Ready fault) is line
  fails (fail.AimForm place term equation) is line = failed (fail.AimForm place term equation) is line
  fails fail.NoMemory is line = absurd (cc)
