use Rattle.std.proofs.Common.{◌-◌, length}
use Rattle.npa_text.proofs.Steps.{Scanned}
use Rattle.npa_text.proofs.scan.lex.Given as goal

abbrev pub invariant-loop-cursor : goal.invariant-loop-cursor
invariant-loop-cursor l = Scanned l.bytes l.tokens l.cursor

abbrev pub decreases-loop-cursor : goal.decreases-loop-cursor
decreases-loop-cursor l = length l.bytes - l.cursor.at
