use Rattle.npa_drafts.proofs.Apart.{kept_apart, made_equal}
use Rattle.npa_drafts.proofs.drafting.keeps_apart.Goals as goal

pub returns-then-equals : goal.returns-then-equals
returns-then-equals c =
    made_equal c.args.s.now c.args.message.now c.args.facts.now c.loop-fact.fact-index c.fact-item.result _ _ c.loop-fact-test.true c.fact-item.is c.in_ok-made.ensures c.loop-fact.invariant.0 c.equals.ensures c.if-equals.true c.loop-fact.invariant.1

pub loop-fact-preserved : goal.loop-fact-preserved
loop-fact-preserved c =
    (c.loop-fact.invariant.0, kept_apart c.args.s.now c.args.message.now c.args.facts.now c.loop-fact.fact-index c.fact-item.result _ _ c.loop-fact-test.true c.fact-item.is c.in_ok-made.ensures c.loop-fact.invariant.0 c.equals.ensures c.if-equals.false c.loop-fact.invariant.1)
