use Rattle.std.proofs.Common.{◌≡◌, drop, length}
use Rattle.npa_reading.specs.Trees.{seen}
use Rattle.npa_module.specs.Items.{fresh_read, unbound}
use Rattle.npa_module.proofs.scopes.read_fresh.Given as goal

abbrev pub invariant-loop-node : goal.invariant-loop-node
invariant-loop-node l = record {
  rest : fresh_read l.bytes l.tokens l.sig l.binders (seen (drop l.node-index l.nodes)) ≡ fresh_read l.bytes l.tokens l.sig unbound (seen l.nodes);
  many : length l.binders.names ≡ l.node-index;
}
