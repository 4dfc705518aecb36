use Rattle.std.proofs.Common.{refl, arith}
use Rattle.npa_rewrite.proofs.Root.{root_found, unmatched_all}
use Rattle.npa_rewrite.proofs.step.first_step.Goals as goal

pub returns-in-Some-clause-step : goal.returns-in-Some-clause-step
returns-in-Some-clause-step c =
    root_found c.args.th.now c.args.t.now c.in_ok-instance.field-0 _ c.loop-equation.equation-index c.equation-item.result c.sorts.result.now c.args.t.now c.in_ok-s.field-0 c.in-Some.s
    c.as_slice-equation-items.ensures c.loop-equation-test.true c.equation-item.is c.sorts.ensures refl c.in_ok-s.ensures.matcher c.in-Some.is c.in_ok-instance.ensures

pub returns-clause-none : goal.returns-clause-none
returns-clause-none c =
    λ _. unmatched_all c.args.th.now c.args.t.now _ c.loop-equation.equation-index c.as_slice-equation-items.ensures (omega arith) c.loop-equation.invariant.unmatched
