use Rattle.std.proofs.Common.{◌≡◌, ◌+◌, drop, sym, ◌∙◌, subst}
use Rattle.std.proofs.lemmas.Result.{err_from_is_err_and}
use Rattle.npa_conv.specs.Places.{hole_at}
use Rattle.npa_conv.specs.Verdict.{first_at, overlap_fault}
use Rattle.npa_conv.proofs.Faults.{at_handed, at_passed}
use Rattle.npa_conv.proofs.pairs.check_part.Goals as goal

pub returns-in_err-check_overlap : goal.returns-in_err-check_overlap
returns-in_err-check_overlap c =
    let p = err_from_is_err_and c.from_residual.result c.from_residual.ensures.1 in
    let part = c.args.part.now in
    let fault = overlap_fault c.args.th.now part.number part.equation.now (hole_at part.equation.now.left part.place) in
    at_handed fault c.as_slice-equations.result.now c.loop-at.at c.index-equations-at.result c.from_residual.result p.0 c.in_err-check_overlap.field-0.0
    (first_at fault 0 c.args.th.now.equations) c.loop-at-test.true c.index-equations-at.is
    (subst (λ items. first_at fault c.loop-at.at (drop c.loop-at.at items) ≡ first_at fault 0 c.args.th.now.equations) (sym c.as_slice-equations.ensures) c.loop-at.invariant)
    p.1 p.2 c.in_err-check_overlap.ensures

pub loop-at-preserved : goal.loop-at-preserved
loop-at-preserved c =
    let part = c.args.part.now in
    let fault = overlap_fault c.args.th.now part.number part.equation.now (hole_at part.equation.now.left part.place) in
    subst (λ items. first_at fault (c.loop-at.at + 1) (drop (c.loop-at.at + 1) items) ≡ first_at fault 0 c.args.th.now.equations) c.as_slice-equations.ensures
    (at_passed fault c.as_slice-equations.result.now c.loop-at.at c.index-equations-at.result c.loop-at-test.true c.index-equations-at.is c.in_ok-check_overlap.ensures
    ∙ subst (λ items. first_at fault c.loop-at.at (drop c.loop-at.at items) ≡ first_at fault 0 c.args.th.now.equations) (sym c.as_slice-equations.ensures) c.loop-at.invariant)
