use Rattle.npa_limits.proofs.LimitLaws.{large_found, large_next}
use Rattle.npa_limits.proofs.limits.+large.Goals as goal

pub first_large-returns-in-Some : goal.first_large-returns-in-Some
first_large-returns-in-Some t c =
    large_found c.args.nodes.now c.loop-node.node-index c.node-item.result c.large_node.result c.in-Some.passed
    c.loop-node-test.true c.node-item.is c.loop-node.invariant c.large_node.ensures c.in-Some.is

pub first_large-loop-node-preserved : goal.first_large-loop-node-preserved
first_large-loop-node-preserved t c =
    large_next c.args.nodes.now c.loop-node.node-index c.node-item.result c.large_node.result
    c.loop-node-test.true c.node-item.is c.loop-node.invariant c.large_node.ensures c.in_default.is
