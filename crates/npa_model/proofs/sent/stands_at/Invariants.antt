use Rattle.std.proofs.Common.{◌≡◌, ℕ, ◌<◌, get_or, slice_get, Some}
use Rattle.npa_model.proofs.sent.stands_at.Given as goal

abbrev pub invariant-loop-place : goal.invariant-loop-place
invariant-loop-place l = (k : ℕ) → k < l.place-index → slice_get l.terms (get_or l.places k 0) ≡ Some l.term → ⊥
