use Rattle.std.proofs.Common.{◌≡◌, ◌++◌, drop}
use Rattle.npa_reading.specs.Trees.{all_with, seen}
use Rattle.npa_reading.proofs.trees.all_with.Given as goal

abbrev pub invariant-loop-node : goal.invariant-loop-node
invariant-loop-node l = seen l.found.items ++ all_with l.symbol (drop l.node-index l.nodes) ≡ all_with l.symbol l.nodes
