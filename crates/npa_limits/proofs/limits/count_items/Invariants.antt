use Rattle.std.proofs.Common.{◌≡◌, ◌+◌, ◌-◌, ◌^◌, ◌<◌, min, drop}
use Rattle.npa_text.specs.declared.symbols.TheConstants.{ITEM}
use Rattle.npa_reading.specs.Trees.{all_with}
use Rattle.npa_limits.specs.Limits.{number, is_counted}
use Rattle.npa_limits.proofs.limits.count_items.Given as goal

abbrev pub invariant-loop-node : goal.invariant-loop-node
invariant-loop-node l = record {
  rest : min (l.count + number (is_counted l.part) (all_with ITEM (drop l.node-index l.nodes))) (2 ^ 64 - 1) ≡ min (number (is_counted l.part) (all_with ITEM l.nodes)) (2 ^ 64 - 1);
  fits : l.count < 2 ^ 64;
}
