use Rattle.std.proofs.Common.{◌≡◌, ℕ, ◌<◌, Some, slice_get}
use Rattle.npa_model.specs.declared.aim.Aim.{Aim}
use Rattle.npa_model.specs.Accepted.{IsAccepted}
use Rattle.npa_close.proofs.aims.aim_fault.Given as goal

abbrev pub invariant-loop-place : goal.invariant-loop-place
invariant-loop-place l = (k : ℕ) (other : Aim) → k < l.place → slice_get l.aims k ≡ Some other → IsAccepted l.th other
