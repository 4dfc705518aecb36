use Rattle.npa_variants.proofs.Normals.{normal_past, normal_ends}
use Rattle.npa_variants.proofs.making.are_normal.Goals as goal

pub returns-then-not-branch : goal.returns-then-not-branch
returns-then-not-branch c =
    normal_ends c.args.th.now c.args.ts.now c.loop-t.t-index c.t-item.result c.in_ok-is_normal.field-0 c.requires.cancelling c.loop-t-test.true c.t-item.is
    c.in_ok-is_normal.ensures c.if-not-branch.true c.loop-t.invariant

pub loop-t-preserved : goal.loop-t-preserved
loop-t-preserved c =
    normal_past c.args.th.now c.args.ts.now c.loop-t.t-index c.t-item.result c.in_ok-is_normal.field-0 c.requires.cancelling c.loop-t-test.true c.t-item.is
    c.in_ok-is_normal.ensures c.if-not-branch.false c.loop-t.invariant
