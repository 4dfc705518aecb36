use Rattle.std.proofs.Common.{◌≡◌, drop}
use Rattle.npa_variants.specs.Search.{by_row, folded, level}
use Rattle.npa_variants.specs.Told.{as_kept}
use Rattle.npa_variants.proofs.narrowing.level.Given as goal

abbrev pub invariant-loop-row : goal.invariant-loop-row
invariant-loop-row l =
    folded (by_row 64 l.th l.m) (drop l.row-index l.rows) (as_kept l.kept) ≡ level 64 l.th l.m l.rows (as_kept l.fn.kept)
