use Rattle.test_unify.proofs.algebra.Algebra.put_answer.Goals as goal

pub unifiable-requires-clause-sorts : goal.unifiable-requires-clause-sorts
unifiable-requires-clause-sorts c = (c.in_ok-are_fit.ensures.0 c.if-not-branch.false).sorts

pub unifiable-requires-clause-low : goal.unifiable-requires-clause-low
unifiable-requires-clause-low c = (c.in_ok-are_fit.ensures.0 c.if-not-branch.false).low

pub unify-requires-clause-sorts : goal.unify-requires-clause-sorts
unify-requires-clause-sorts c = (c.in_ok-are_fit.ensures.0 c.if-not-branch.false).sorts

pub unify-requires-clause-low : goal.unify-requires-clause-low
unify-requires-clause-low c = (c.in_ok-are_fit.ensures.0 c.if-not-branch.false).low
