-- No aim is called by the empty name.
use Rattle.std.proofs.Common.{◌≡◌, ℕ, None, Some, List, [], ◌∷◌, length, cond, refl, sym, ap, ◌∙◌}
use Rattle.std.specs.Prelude.{not, ◌&&◌, nat_eq}
use Rattle.std.specs.Str.{bytes_eq}
use Rattle.npa_model.specs.declared.aim.Aim.{Aim}
use Rattle.npa_close.specs.Checks.{aim_called}

pub none_called : (name : List ℕ) (aims : List Aim) → length name ≡ 0 → None ≡ aim_called name aims
none_called name [] none = refl
none_called name (aim ∷ aims) none =
    none_called name aims none
    ∙ sym (ap (λ n. cond (not (nat_eq n 0) && bytes_eq aim.name name) (Some aim) (aim_called name aims)) none)
