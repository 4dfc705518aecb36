use Rattle.std.proofs.Common.{◌≡◌, drop}
use Rattle.npa_text.specs.declared.symbols.TheConstants.{PART, NEXT_PART}
use Rattle.npa_reading.specs.Trees.{listed}
use Rattle.npa_limits.specs.Tallies.{tallied}
use Rattle.npa_limits.proofs.limits.tally_parts.Given as goal

abbrev pub invariant-loop-node : goal.invariant-loop-node
invariant-loop-node l = tallied l.tally (listed PART NEXT_PART (drop l.node-index l.nodes)) ≡ tallied l.fn.begun (listed PART NEXT_PART l.nodes)
