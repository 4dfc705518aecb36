use Rattle.npa_subsume.specs.Offering.{ForFact}
use Rattle.npa_subsume.proofs.Adding.{one_added}
use Rattle.npa_subsume.proofs.askers.add_facts.Goals as goal

pub loop-t-preserved : goal.loop-t-preserved
loop-t-preserved c =
    one_added (ForFact c.args.sorts.now c.args.us.now) c.args.ts.now c.loop-t.t-index c.args.askers.now c.loop-t.askers c.push.new.self c.t-item.result c.in_ok-fact_offers.field-0
    c.loop-t-test.true c.t-item.is c.in_ok-push.ensures.ok c.in_ok-fact_offers.ensures c.loop-t.invariant
