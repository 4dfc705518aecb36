use Rattle.std.proofs.Common.{◌≡◌, drop}
use Rattle.npa_variants.specs.Search.{is_covered}
use Rattle.npa_variants.proofs.kept.is_covered.Given as goal

abbrev pub invariant-loop-kept : goal.invariant-loop-kept
invariant-loop-kept l = is_covered l.sorts (drop l.kept-index l.rows) l.row ≡ is_covered l.sorts l.rows l.row
