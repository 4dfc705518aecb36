use Rattle.npa_variants.proofs.narrowing.unified.Goals as goal

pub unify-requires-clause-sorts : goal.unify-requires-clause-sorts
unify-requires-clause-sorts c = (c.in_ok-are_fit.ensures.0 c.if-not-branch.false).sorts

pub unify-requires-clause-low : goal.unify-requires-clause-low
unify-requires-clause-low c = (c.in_ok-are_fit.ensures.0 c.if-not-branch.false).low
