-- Copies of the parts of a module meet the conditions of the checks.
use Rattle.std.proofs.Common.{◌≡◌, ℕ, List, Some, slice_get, sym, subst}
use Rattle.npa_sig.specs.declared.protocol.Protocol.{Protocol}
use Rattle.npa_model.specs.declared.aim.Aim.{Aim}
use Rattle.npa_model.specs.WellFormed.{IsWellFormedAim, IsPlainAim}
use Rattle.npa_module.specs.declared.source.Source.{Source}
use Rattle.npa_module.specs.Forms.{IsWellFormedSource, IsPlainSource}

module _ (source : Source) (aims : List Aim) (same : aims ≡ source.aims) where
  listed : (k : ℕ) (aim : Aim) → slice_get aims k ≡ Some aim → slice_get source.aims k ≡ Some aim
  listed k aim at = subst (λ (xs : List Aim). slice_get xs k ≡ Some aim) same at

  pub formed_aims : IsWellFormedSource source → (protocol : Protocol) → protocol ≡ source.protocol →
      (k : ℕ) (aim : Aim) → slice_get aims k ≡ Some aim → IsWellFormedAim protocol.sig protocol.strands aim
  formed_aims form protocol is = λ k aim at.
      subst (λ (p : Protocol). IsWellFormedAim p.sig p.strands aim) (sym is) (form.aims k aim (listed k aim at))

  pub plain_aims : IsPlainSource source → (k : ℕ) (aim : Aim) → slice_get aims k ≡ Some aim → IsPlainAim aim
  plain_aims plain = λ k aim at. plain.aims k aim (listed k aim at)
