use Rattle.std.proofs.Common.{◌≡◌, ◌++◌, drop}
use Rattle.npa_reading.specs.Trees.{listed, seen}
use Rattle.npa_reading.proofs.trees.listed.Given as goal

abbrev pub invariant-loop-node : goal.invariant-loop-node
invariant-loop-node l = seen l.found.items ++ listed l.symbol l.next (drop l.node-index l.nodes) ≡ listed l.symbol l.next l.nodes
