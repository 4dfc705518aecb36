use Rattle.std.proofs.Common.{◌≡◌, drop}
use Rattle.npa_reading.specs.Trees.{seen}
use Rattle.npa_module.specs.Items.{variables_read}
use Rattle.npa_module.proofs.scopes.read_variables.Given as goal

abbrev pub invariant-loop-node : goal.invariant-loop-node
invariant-loop-node l = variables_read l.bytes l.tokens l.draft l.binders (seen (drop l.node-index l.nodes)) ≡ variables_read l.bytes l.tokens l.draft l.fn.before (seen l.nodes)
