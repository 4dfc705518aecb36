use Rattle.std.proofs.Common.{◌≡◌, drop}
use Rattle.npa_reading.specs.Trees.{seen}
use Rattle.npa_module.specs.Items.{sorts_read}
use Rattle.npa_reading.specs.Reading.{with_front}
use Rattle.npa_module.proofs.sorts.read_sorts.Given as goal

abbrev pub invariant-loop-node : goal.invariant-loop-node
invariant-loop-node l = sorts_read l.bytes l.tokens l.sorts (seen l.nodes) ≡ with_front l.found (sorts_read l.bytes l.tokens l.sorts (seen (drop l.node-index l.nodes)))
