use Rattle.npa_subsume.proofs.Kept.{instance_in}
use Rattle.npa_subsume.proofs.early.have_heads.Goals as goal

pub returns-then-not-has_head : goal.returns-then-not-has_head
returns-then-not-has_head c _ s each =
    c.has_head.ensures c.if-not-has_head.true s (instance_in c.args.ts.now c.args.us.now c.loop-t.t-index c.t-item.result s c.loop-t-test.true c.t-item.is each)
