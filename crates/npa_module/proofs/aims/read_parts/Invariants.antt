use Rattle.std.proofs.Common.{◌≡◌, drop}
use Rattle.npa_reading.specs.Trees.{seen}
use Rattle.npa_module.specs.Items.{parts_read}
use Rattle.npa_reading.specs.Reading.{with_front}
use Rattle.npa_module.proofs.aims.read_parts.Given as goal

abbrev pub invariant-loop-node : goal.invariant-loop-node
invariant-loop-node l = parts_read l.bytes l.tokens l.draft l.scope (seen l.nodes) ≡ with_front l.parts (parts_read l.bytes l.tokens l.draft l.scope (seen (drop l.node-index l.nodes)))
