use Rattle.std.proofs.Common.{◌≤◌, ◌^◌, arith}
use Rattle.npa_term.specs.Variables.{variables}
use Rattle.npa_variants.specs.Search.{past}
use Rattle.npa_variants.proofs.Answering.{unifiers_told}
use Rattle.npa_variants.proofs.PastNumbers.{fits}
use Rattle.npa_variants.proofs.narrowing.unifiers_at.Goals as goal

pub problem-requires : goal.problem-requires
problem-requires c =
    let few : past (variables c.args.equation.now.left) ≤ 2 ^ 30 = omega (arith, c.past-more.ensures, c.if-more-gt-ROOM.false) in
    record { fits = fits (variables c.args.equation.now.left) c.args.tried.now.base few (omega (arith, c.if-tried-gt-ROOM.false)) }

pub returns : goal.returns
returns c =
    unifiers_told c.args.tried.now.th.now c.args.tried.now.row.now c.args.part.now c.args.equation.now c.unified.result _ _ c.args.tried.now.base c.past-more.result
    c.unified.ensures c.sorts.ensures c.requires.base c.in_ok-pairs.ensures c.past-more.ensures
