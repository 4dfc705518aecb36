use Rattle.std.proofs.Common.{◌≡◌, ℕ, ◌<◌}
use Rattle.npa_sorts.specs.Subsorts.{IsAtOrBelow}
use Rattle.npa_sorts.proofs.sorts.Sorts.is_below_common.Given as goal

abbrev pub invariant-loop-r : goal.invariant-loop-r
invariant-loop-r l = (x : ℕ) → x < l.r → IsAtOrBelow l.self x l.s → IsAtOrBelow l.self x l.t → IsAtOrBelow l.self l.lower x → l.lower ≡ x
