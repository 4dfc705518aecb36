use Rattle.std.proofs.Common.{◌≡◌, length}
use Rattle.npa_reading.specs.Trees.{after}
use Rattle.npa_reading.proofs.trees.after.Given as goal

abbrev pub invariant-loop-first : goal.invariant-loop-first
invariant-loop-first l = after l.symbol l.rest ≡ after l.symbol l.nodes

abbrev pub decreases-loop-first : goal.decreases-loop-first
decreases-loop-first l = length l.rest
