use Rattle.std.proofs.Common.{◌≡◌, drop}
use Rattle.npa_variants.specs.Search.{by_equation, by_part, folded}
use Rattle.npa_variants.specs.Told.{as_kept}
use Rattle.npa_variants.proofs.narrowing.by_part.Given as goal

abbrev pub invariant-loop-equation : goal.invariant-loop-equation
invariant-loop-equation l =
    folded (by_equation 64 l.tried.th.now l.tried.m l.tried.row.now l.part) (drop l.equation-index l.equation-items) (as_kept l.kept)
    ≡ by_part 64 l.tried.th.now l.tried.m l.tried.row.now l.part (as_kept l.fn.kept)
