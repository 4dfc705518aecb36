use Rattle.std.proofs.Common.{◌≡◌, drop}
use Rattle.npa_limits.specs.Limits.{sizes_of}
use Rattle.npa_limits.proofs.LimitLaws.{large}
use Rattle.npa_limits.proofs.limits.+large.Given as goal

abbrev pub invariant-first_large-loop-node : goal.invariant-first_large-loop-node
invariant-first_large-loop-node l = large (sizes_of (drop l.node-index l.nodes)) ≡ large (sizes_of l.nodes)
