use Rattle.std.proofs.Common.{◌≡◌, drop}
use Rattle.std.specs.List.{find}
use Rattle.npa_text.specs.declared.symbols.TheConstants.{ITEM, MODULE}
use Rattle.npa_reading.specs.Trees.{all_with, below}
use Rattle.npa_limits.specs.Later.{is_later}
use Rattle.npa_limits.proofs.later.later_item.Given as goal

abbrev pub invariant-loop-node : goal.invariant-loop-node
invariant-loop-node l = find is_later (all_with ITEM (drop l.node-index l.node-items)) ≡ find is_later (all_with ITEM (below MODULE l.nodes))
