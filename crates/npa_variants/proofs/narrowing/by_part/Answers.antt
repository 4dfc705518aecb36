use Rattle.std.proofs.lemmas.Result.{err_from_is_err_and}
use Rattle.npa_variants.specs.Search.{by_equation}
use Rattle.npa_variants.specs.Told.{as_kept}
use Rattle.npa_variants.proofs.Folding.{folded_passed, folded_stopped, handed}
use Rattle.npa_variants.proofs.narrowing.by_part.Goals as goal

pub returns-in_err-kept : goal.returns-in_err-kept
returns-in_err-kept c =
    let p = err_from_is_err_and c.from_residual.result c.from_residual.ensures.1 in
    let tried = c.args.tried.now in
    handed as_kept c.from_residual.result p.0 c.in_err-kept.field-0.0 _ p.1 p.2
    (folded_stopped as_kept (by_equation 64 tried.th.now tried.m tried.row.now c.args.part.now) c.as_slice-equation-items.result.now c.loop-equation.equation-index c.equation-item.result
    (as_kept c.loop-equation.kept) c.in_err-kept.field-0.0 _ c.loop-equation-test.true c.equation-item.is c.in_err-kept.ensures c.loop-equation.invariant)

pub loop-equation-preserved : goal.loop-equation-preserved
loop-equation-preserved c =
    let tried = c.args.tried.now in
    folded_passed (by_equation 64 tried.th.now tried.m tried.row.now c.args.part.now) c.as_slice-equation-items.result.now c.loop-equation.equation-index c.equation-item.result
    (as_kept c.loop-equation.kept) (as_kept c.in_ok-kept.kept) _ c.loop-equation-test.true c.equation-item.is c.in_ok-kept.ensures c.loop-equation.invariant
