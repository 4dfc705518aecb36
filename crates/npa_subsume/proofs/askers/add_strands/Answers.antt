use Rattle.npa_subsume.specs.Offering.{ForStrand}
use Rattle.npa_subsume.proofs.Adding.{one_added}
use Rattle.npa_subsume.proofs.askers.add_strands.Goals as goal

pub loop-p-preserved : goal.loop-p-preserved
loop-p-preserved c =
    one_added (ForStrand c.args.sorts.now c.args.qs.now) c.args.ps.now c.loop-p.p-index c.args.askers.now c.loop-p.askers c.push.new.self c.p-item.result c.in_ok-strand_offers.field-0
    c.loop-p-test.true c.p-item.is c.in_ok-push.ensures.ok c.in_ok-strand_offers.ensures c.loop-p.invariant
