use Rattle.std.proofs.Common.{arith}
use Rattle.npa_rewrite.proofs.Root.{matched_some, unmatched_all}
use Rattle.npa_rewrite.proofs.step.has_no_match.Goals as goal

pub returns-then-branch-clause-some : goal.returns-then-branch-clause-some
returns-then-branch-clause-some c =
    λ _. matched_some c.args.th.now c.args.t.now _ c.loop-equation.equation-index c.equation-item.result c.sorts.result.now
    c.as_slice-equation-items.ensures c.loop-equation-test.true c.equation-item.is c.sorts.ensures (c.in_ok-is_matched.ensures.matched c.if-branch.true)

pub returns-clause-none : goal.returns-clause-none
returns-clause-none c =
    λ _. unmatched_all c.args.th.now c.args.t.now _ c.loop-equation.equation-index c.as_slice-equation-items.ensures (omega arith) c.loop-equation.invariant
