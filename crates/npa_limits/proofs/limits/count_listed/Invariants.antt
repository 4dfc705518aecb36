use Rattle.std.proofs.Common.{◌≡◌, ◌+◌, ◌-◌, ◌^◌, ◌<◌, min, drop, length}
use Rattle.npa_reading.specs.Trees.{listed}
use Rattle.npa_limits.proofs.limits.count_listed.Given as goal

abbrev pub invariant-loop-node : goal.invariant-loop-node
invariant-loop-node l = record {
  rest : min (l.count + length (listed l.symbol l.next (drop l.node-index l.nodes))) (2 ^ 64 - 1) ≡ min (length (listed l.symbol l.next l.nodes)) (2 ^ 64 - 1);
  fits : l.count < 2 ^ 64;
}
