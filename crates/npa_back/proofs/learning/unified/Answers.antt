use Rattle.npa_sets.proofs.Unifying.{given_unifiers}
use Rattle.std.proofs.Common.{refl}
use Rattle.npa_back.proofs.learning.unified.Goals as goal

pub unify-requires-clause-sorts : goal.unify-requires-clause-sorts
unify-requires-clause-sorts c = (c.in_ok-are_fit.ensures.0 c.if-not-branch.false).sorts

pub unify-requires-clause-low : goal.unify-requires-clause-low
unify-requires-clause-low c = (c.in_ok-are_fit.ensures.0 c.if-not-branch.false).low

pub returns : goal.returns
returns c = given_unifiers c.args.sorts.now c.args.next c.args.pairs.now c.args.pairs.now c.unify.result refl c.unify.ensures.list c.unify.ensures.many c.unify.ensures.large
