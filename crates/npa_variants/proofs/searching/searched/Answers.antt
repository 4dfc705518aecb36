use Rattle.std.proofs.Common.{◌≡◌, ◌+◌, ◌≤◌, [], arith}
use Rattle.std.proofs.lemmas.Result.{err_from_is_err_and}
use Rattle.npa_variants.specs.Told.{as_kept}
use Rattle.npa_variants.proofs.Deepening.{passed, stopped}
use Rattle.npa_variants.proofs.Folding.{handed}
use Rattle.npa_variants.proofs.searching.searched.Goals as goal

pub returns-in_err-kept : goal.returns-in_err-kept
returns-in_err-kept c =
    let p = err_from_is_err_and c.from_residual.result c.from_residual.ensures.1 in
    let some : c.loop.kept.new ≡ [] → ⊥ = λ e. (let told = c.is_empty.ensures.1 e in let isnt = c.if-is_empty.false in let never : ⊥ = cc in never) in
    handed (λ rs. rs) c.from_residual.result p.0 c.in_err-kept.field-0.0 _ p.1 p.2
    (stopped c.args.th.now c.args.m c.args.levels c.loop.counter (as_kept c.loop.kept) _ c.loop.invariant.rest c.in_err-kept.field-0.0 c.loop-test.true some c.in_err-kept.ensures)

pub loop-preserved : goal.loop-preserved
loop-preserved c =
    let some : c.loop.kept.new ≡ [] → ⊥ = λ e. (let told = c.is_empty.ensures.1 e in let isnt = c.if-is_empty.false in let never : ⊥ = cc in never) in
    let within : c.loop.counter + 1 ≤ c.args.levels = omega (arith, c.loop-test.true) in record {
      within = within;
      rest = passed c.args.th.now c.args.m c.args.levels c.loop.counter (as_kept c.loop.kept) _ c.loop.invariant.rest (as_kept c.in_ok-kept.kept) c.loop-test.true some c.in_ok-kept.ensures;
    }
