use Rattle.std.proofs.Common.{◌≡◌, drop}
use Rattle.npa_reading.specs.Trees.{seen}
use Rattle.npa_reading.specs.Reading.{with_front}
use Rattle.npa_run_text.specs.RunTexts.{instances_read}
use Rattle.npa_run_text.proofs.reader.read_instances.Given as goal

abbrev pub invariant-loop-node : goal.invariant-loop-node
invariant-loop-node l = instances_read l.bytes l.tokens l.protocol (seen l.nodes) ≡ with_front l.instances (instances_read l.bytes l.tokens l.protocol (seen (drop l.node-index l.nodes)))
