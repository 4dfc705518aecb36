use Rattle.std.proofs.Common.{◌≡◌, ◌+◌, ◌-◌, ◌^◌, ◌<◌, min, drop}
use Rattle.npa_limits.specs.Limits.{total, sizes_of}
use Rattle.npa_limits.proofs.limits.+size.Given as goal

abbrev pub invariant-total_size-loop-node : goal.invariant-total_size-loop-node
invariant-total_size-loop-node l = record {
  rest : min (l.size + total (sizes_of (drop l.node-index l.nodes))) (2 ^ 64 - 1) ≡ min (total (sizes_of l.nodes)) (2 ^ 64 - 1);
  fits : l.size < 2 ^ 64;
}
