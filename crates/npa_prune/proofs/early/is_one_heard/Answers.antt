use Rattle.std.proofs.Common.{arith}
use Rattle.npa_model.proofs.Comparing.{denied}
use Rattle.npa_prune.specs.Pruned.{IsHeard}
use Rattle.npa_prune.proofs.Searching.{none_more, none_found, told_false}
use Rattle.npa_prune.proofs.early.is_one_heard.Goals as goal

pub loop-value-preserved : goal.loop-value-preserved
loop-value-preserved c =
    none_more (IsHeard c.args.g.now) c.args.values.now c.loop-value.value-index c.value-item.result (omega (arith, c.loop-value-test.true)) c.value-item.is (denied c.is_heard.result c.is_heard.ensures c.if-is_heard.false) c.loop-value.invariant

pub returns : goal.returns
returns c = told_false (none_found (IsHeard c.args.g.now) c.args.values.now c.loop-value.value-index (omega (arith, c.loop-value-test.false)) c.loop-value.invariant)
