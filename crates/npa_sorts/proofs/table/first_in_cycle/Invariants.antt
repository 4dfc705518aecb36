use Rattle.std.proofs.Common.{◌≡◌, ℕ, ◌<◌, false}
use Rattle.npa_sorts.specs.Table.{rows_of, entry}
use Rattle.npa_sorts.proofs.table.first_in_cycle.Given as goal

abbrev pub invariant-loop-s : goal.invariant-loop-s
invariant-loop-s l = (r : ℕ) → r < l.s → entry (rows_of l.table) r r ≡ false
