use Rattle.std.proofs.Common.{arith}
use Rattle.npa_unify.proofs.Measuring.{bound_at, unbound_all, unbound_more}
use Rattle.npa_unify.proofs.bindings.place_of.Goals as goal

pub returns-then-eq-clause-some : goal.returns-then-eq-clause-some
returns-then-eq-clause-some c = bound_at c.args.bound.now c.loop-at.at c.index-bound-at.result c.args.v c.loop-at-test.true c.if-eq.ensures

pub returns-clause-none : goal.returns-clause-none
returns-clause-none c = λ e. unbound_all c.args.bound.now c.loop-at.at c.args.v (omega (arith, c.loop-at-test.false)) c.loop-at.invariant

pub loop-at-preserved : goal.loop-at-preserved
loop-at-preserved c = unbound_more c.args.bound.now c.loop-at.at c.index-bound-at.result c.args.v c.loop-at-test.true c.if-eq.ensures c.loop-at.invariant
