use Rattle.std.proofs.Common.{◌≡◌, ◌++◌}
use Rattle.npa_variants.proofs.kept.joined.Given as goal

abbrev pub invariant-loop-row : goal.invariant-loop-row
invariant-loop-row l = l.old ++ l.row-iterator.rest.items ≡ l.fn.kept.old ++ l.fn.kept.new
