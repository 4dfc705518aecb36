use Rattle.std.proofs.Common.{◌≡◌, ◌≤◌, length, drop}
use Rattle.npa_reading.specs.Trees.{seen}
use Rattle.npa_module.specs.Items.{arguments_read}
use Rattle.npa_reading.specs.Reading.{with_front}
use Rattle.npa_module.proofs.parts.read_arguments.Given as goal

abbrev pub invariant-loop-k : goal.invariant-loop-k
invariant-loop-k l = record {
  rest : arguments_read l.bytes l.tokens l.sig l.scope l.names l.sorts (seen l.nodes) ≡ with_front l.args (arguments_read l.bytes l.tokens l.sig l.scope (drop l.k l.names) (drop l.k l.sorts) (seen (drop l.k l.nodes)));
  within : (l.k ≤ length l.names) × (l.k ≤ length l.sorts);
}
