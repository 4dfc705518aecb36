use Rattle.std.proofs.Common.{ℕ, ◌<◌, None, get_or}
use Rattle.std.specs.Prelude.{IsSome}
use Rattle.npa_sig.proofs.least.first_empty.Given as goal

abbrev pub invariant-loop-s : goal.invariant-loop-s
invariant-loop-s l = (r : ℕ) → r < l.s → IsSome (get_or l.sizes r None)
