use Rattle.std.proofs.Common.{◌≡◌, ◌<◌, ◌≤◌, ◌^◌, length, arith}
use Rattle.std.proofs.lemmas.Result.{err_from_is_err_and}
use Rattle.npa_conv.specs.Overlaps.{base_of, holes}
use Rattle.npa_conv.specs.Places.{hole_at}
use Rattle.npa_conv.specs.Verdict.{first_at, overlap_fault, pairs_fault}
use Rattle.npa_conv.proofs.Faults.{fault_handed}
use Rattle.npa_conv.proofs.Applications.{get_or_same, placed_part, placed_within}
use Rattle.npa_conv.proofs.Plainness.{base_small}
use Rattle.npa_conv.proofs.pairs.check_equation.Goals as goal

pub overflow_cast-base : goal.overflow_cast-base
overflow_cast-base c =
    let few : base_of c.args.equation.now ≤ 2 ^ 30 = base_small c.args.th.now c.requires.plain c.args.equation.now c.requires.listed in
    omega (arith, few, c.past-base.ensures)

pub check_part-requires-clause-placed : goal.check_part-requires-clause-placed
check_part-requires-clause-placed c = record {
  listed = c.requires.listed;
  base = c.past-base.ensures;
  within = placed_within c.in_ok-terms.terms.items c.args.equation.now.left c.loop-place.place c.in_ok-terms.ensures (omega (arith, c.loop-place-test.true, c.len-place-end.ensures));
  term = placed_part c.in_ok-terms.terms.items c.args.equation.now.left c.loop-place.place c.index.result.now c.in_ok-terms.ensures (omega (arith, c.loop-place-test.true, c.len-place-end.ensures)) c.index.ensures;
}

pub returns-in_err-check_part : goal.returns-in_err-check_part
returns-in_err-check_part c =
    let p = err_from_is_err_and c.from_residual-in_err-check_part.result c.from_residual-in_err-check_part.ensures.1 in
    let hs = holes c.args.equation.now.left in
    let within : c.loop-place.place < length hs =
    placed_within c.in_ok-terms.terms.items c.args.equation.now.left c.loop-place.place c.in_ok-terms.ensures (omega (arith, c.loop-place-test.true, c.len-place-end.ensures)) in
    fault_handed (λ p. first_at (overlap_fault c.args.th.now c.args.number c.args.equation.now p) 0 c.args.th.now.equations) hs c.loop-place.place
    (hole_at c.args.equation.now.left c.loop-place.place) c.from_residual-in_err-check_part.result p.0 c.in_err-check_part.field-0.0
    (pairs_fault c.args.th.now c.args.number c.args.equation.now) within (get_or_same hs c.loop-place.place (c.args.equation.now.left, c.args.equation.now.left) within) c.loop-place.invariant
    p.1 p.2 c.in_err-check_part.ensures
