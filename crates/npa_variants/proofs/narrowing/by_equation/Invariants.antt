use Rattle.std.proofs.Common.{◌≡◌, drop}
use Rattle.npa_variants.specs.Search.{by_equation, by_unifier, folded}
use Rattle.npa_variants.specs.Told.{as_kept}
use Rattle.npa_variants.proofs.narrowing.by_equation.Given as goal

abbrev pub invariant-loop-s : goal.invariant-loop-s
invariant-loop-s l =
    folded (by_unifier 64 l.tried.th.now l.tried.m l.tried.row.now) (drop l.s-index l.s-items) (as_kept l.kept)
    ≡ by_equation 64 l.tried.th.now l.tried.m l.tried.row.now l.part l.equation (as_kept l.fn.kept)
