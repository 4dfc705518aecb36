use Rattle.std.proofs.Common.{◌≡◌, drop, map}
use Rattle.npa_text.specs.declared.symbols.TheConstants.{ITEM}
use Rattle.npa_reading.specs.Trees.{all_with}
use Rattle.npa_limits.specs.Limits.{first_passed, item_row}
use Rattle.npa_limits.proofs.limits.first_item.Given as goal

abbrev pub invariant-loop-node : goal.invariant-loop-node
invariant-loop-node l = first_passed (map (item_row l.part) (all_with ITEM (drop l.node-index l.nodes))) ≡ first_passed (map (item_row l.part) (all_with ITEM l.nodes))
