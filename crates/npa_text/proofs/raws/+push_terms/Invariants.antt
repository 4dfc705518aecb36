use Rattle.std.proofs.Common.{◌≡◌, ◌++◌, drop}
use Rattle.npa_text.specs.Raws.{terms_of}
use Rattle.npa_text.proofs.raws.+push_terms.Given as goal

abbrev pub invariant-loop-node : goal.invariant-loop-node
invariant-loop-node l = l.terms ++ terms_of l.tokens (drop l.node-index l.nodes) ≡ l.fn.terms ++ terms_of l.tokens l.nodes
