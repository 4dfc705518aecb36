use Rattle.std.proofs.Common.{ℕ, ◌<◌, ◌≤◌, None, get_or}
use Rattle.std.specs.Prelude.{IfSome}
use Rattle.npa_sig.proofs.least.first_past.Given as goal

abbrev pub invariant-loop-s : goal.invariant-loop-s
invariant-loop-s l = (r : ℕ) → r < l.s → IfSome (get_or l.sizes r None) (λ n. n ≤ 64)
