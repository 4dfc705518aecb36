use Rattle.npa_conv.proofs.Occurrences.{occurs_here, occurs_later}
use Rattle.npa_conv.proofs.shapes.+occurs.Goals as goal

pub returns-then-occurs : goal.returns-then-occurs
returns-then-occurs t c =
    occurs_here c.as_slice-arg-items.result.now c.loop-arg.arg-index c.arg-item.result c.args.v c.occurs.result _ c.loop-arg-test.true c.arg-item.is c.occurs.ensures c.if-occurs.true c.loop-arg.invariant

pub loop-arg-preserved : goal.loop-arg-preserved
loop-arg-preserved t c =
    occurs_later c.as_slice-arg-items.result.now c.loop-arg.arg-index c.arg-item.result c.args.v c.occurs.result _ c.loop-arg-test.true c.arg-item.is c.occurs.ensures c.if-occurs.false c.loop-arg.invariant
