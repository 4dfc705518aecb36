use Rattle.std.proofs.Common.{◌≡◌, ◌++◌, drop}
use Rattle.npa_text.specs.Parses.{terminals_from}
use Rattle.npa_text.proofs.parser.terminals_from.Given as goal

abbrev pub invariant-loop-at : goal.invariant-loop-at
invariant-loop-at l = l.terminals.items ++ terminals_from l.at l.bytes (drop l.at l.tokens) ≡ terminals_from l.from l.bytes (drop l.from l.tokens)
