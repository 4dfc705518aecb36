use Rattle.std.proofs.Common.{◌≡◌, drop}
use Rattle.npa_reading.specs.Trees.{seen}
use Rattle.npa_reading.specs.Reading.{with_front}
use Rattle.npa_run_text.specs.RunTexts.{values_read}
use Rattle.npa_run_text.proofs.reader.read_values.Given as goal

abbrev pub invariant-loop-node : goal.invariant-loop-node
invariant-loop-node l = values_read l.bytes l.tokens l.protocol (seen l.nodes) ≡ with_front l.terms (values_read l.bytes l.tokens l.protocol (seen (drop l.node-index l.nodes)))
