use Rattle.std.proofs.Common.{ℕ, ◌+◌, ◌-◌, ◌++◌, ◌∷◌, [], length, take, drop, Contains}
use Rattle.npa_model.specs.Encounters.{CanPick}
use Rattle.npa_model.proofs.meeting.+can_pick.Given as goal

abbrev pub decreases-can_pick : goal.decreases-can_pick
decreases-can_pick l = length l.rows.now - l.k

abbrev pub invariant-loop-n : goal.invariant-loop-n
invariant-loop-n l = (m : ℕ) → Contains (take l.n-index l.n-items) m → (Contains l.used m → ⊥) → CanPick (drop (l.k + 1) l.rows) (l.used ++ m ∷ []) → ⊥
