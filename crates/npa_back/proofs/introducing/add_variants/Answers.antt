use Rattle.std.proofs.Common.{Some}
use Rattle.npa_moves.specs.Lists.{variant_problems}
use Rattle.npa_moves.specs.Steps.{solve_over}
use Rattle.std.proofs.Common.{Some, sym, ◌∙◌, ap}
use Rattle.std.proofs.lemmas.Option.{slice_get-get_or}
use Rattle.std.proofs.lemmas.Result.{err_from_is_err_and}
use Rattle.npa_back.proofs.Following.{handed, next_place, place_stops}
use Rattle.npa_back.proofs.introducing.add_variants.Goals as goal

-- src/introducing.rt:77:16
pub returns-in_err-made : goal.returns-in_err-made
returns-in_err-made c =
    let xs = c.args.variants.now in
    let there = slice_get-get_or xs c.loop-n.n c.index-variants-n.result c.loop-n-test.true ∙ ap Some (sym c.index-variants-n.is) in
    let e = err_from_is_err_and c.from_residual.result c.from_residual.ensures.1 in
    handed c.from_residual.result e.0 c.in_err-made.field-0.0 _ e.1 e.2
    (place_stops (solve_over c.args.narrowing.now.ready.now.sig.sorts) c.args.narrowing.now.vars.now (variant_problems c.args.narrowing.now.pattern.now c.args.s c.args.strand.now) xs _ c.loop-n.made c.loop-n.n _ c.in_err-made.field-0.0 there c.loop-n.invariant c.in_err-made.ensures)

-- src/introducing.rt:76:5
pub loop-n-preserved : goal.loop-n-preserved
loop-n-preserved c =
    let xs = c.args.variants.now in
    let there = slice_get-get_or xs c.loop-n.n c.index-variants-n.result c.loop-n-test.true ∙ ap Some (sym c.index-variants-n.is) in
    next_place (solve_over c.args.narrowing.now.ready.now.sig.sorts) c.args.narrowing.now.vars.now (variant_problems c.args.narrowing.now.pattern.now c.args.s c.args.strand.now) xs _ c.loop-n.made c.in_ok-made.made c.loop-n.n _ there c.loop-n.invariant c.in_ok-made.ensures
