use Rattle.std.proofs.Common.{◌≡◌, drop}
use Rattle.npa_text.specs.declared.symbols.TheConstants.{PART}
use Rattle.npa_reading.specs.Trees.{all_with}
use Rattle.npa_limits.specs.Tallies.{tallied}
use Rattle.npa_limits.proofs.limits.tally_children.Given as goal

abbrev pub invariant-loop-node : goal.invariant-loop-node
invariant-loop-node l = tallied l.tally (all_with PART (drop l.node-index l.nodes)) ≡ tallied l.fn.begun (all_with PART l.nodes)
