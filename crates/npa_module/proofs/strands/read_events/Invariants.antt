use Rattle.std.proofs.Common.{◌≡◌, drop}
use Rattle.npa_reading.specs.Trees.{seen}
use Rattle.npa_module.specs.Items.{events_read}
use Rattle.npa_reading.specs.Reading.{with_front}
use Rattle.npa_module.proofs.strands.read_events.Given as goal

abbrev pub invariant-loop-node : goal.invariant-loop-node
invariant-loop-node l = events_read l.bytes l.tokens l.sig l.scope (seen l.nodes) ≡ with_front l.events (events_read l.bytes l.tokens l.sig l.scope (seen (drop l.node-index l.nodes)))
