use Rattle.std.proofs.lemmas.Result.{err_from_is_err_and}
use Rattle.npa_variants.specs.Search.{by_unifier}
use Rattle.npa_variants.specs.Told.{as_kept}
use Rattle.npa_variants.proofs.Folding.{folded_passed, folded_stopped, handed}
use Rattle.npa_variants.proofs.narrowing.by_equation.Goals as goal

pub returns-in_err-kept : goal.returns-in_err-kept
returns-in_err-kept c =
    let p = err_from_is_err_and c.from_residual-in_err-kept.result c.from_residual-in_err-kept.ensures.1 in
    let tried = c.args.tried.now in
    handed as_kept c.from_residual-in_err-kept.result p.0 c.in_err-kept.field-0.0 _ p.1 p.2
    (folded_stopped as_kept (by_unifier 64 tried.th.now tried.m tried.row.now) c.as_slice-s-items.result.now c.loop-s.s-index c.s-item.result (as_kept c.loop-s.kept)
    c.in_err-kept.field-0.0 _ c.loop-s-test.true c.s-item.is c.in_err-kept.ensures c.loop-s.invariant)

pub loop-s-preserved : goal.loop-s-preserved
loop-s-preserved c =
    let tried = c.args.tried.now in
    folded_passed (by_unifier 64 tried.th.now tried.m tried.row.now) c.as_slice-s-items.result.now c.loop-s.s-index c.s-item.result (as_kept c.loop-s.kept) (as_kept c.in_ok-kept.kept) _
    c.loop-s-test.true c.s-item.is c.in_ok-kept.ensures c.loop-s.invariant
