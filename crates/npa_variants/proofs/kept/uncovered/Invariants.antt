use Rattle.std.proofs.Common.{◌≡◌, ◌++◌}
use Rattle.npa_variants.specs.Search.{uncovered}
use Rattle.npa_variants.proofs.kept.uncovered.Given as goal

abbrev pub invariant-loop-kept : goal.invariant-loop-kept
invariant-loop-kept l = l.left ++ uncovered l.sorts l.row l.kept-iterator.rest.items ≡ uncovered l.sorts l.row l.fn.rows
