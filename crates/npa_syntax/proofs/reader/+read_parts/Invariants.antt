use Rattle.std.proofs.Common.{length, drop, map, ◌-◌, ◌≤◌, ◌+◌}
use Rattle.npa_syntax.specs.Tables.{plain, piece, rules_of}
use Rattle.npa_syntax.specs.Automata.{Pending}
use Rattle.npa_syntax.proofs.reader.+read_parts.Given as goal

abbrev pub decreases-read_parts : goal.decreases-read_parts
decreases-read_parts l = length l.terminals.now - l.from

abbrev pub decreases-loop-next : goal.decreases-loop-next
decreases-loop-next l = (length l.terminals - l.at) + (length l.parts - l.next)

-- what is read so far, and what is to come
abbrev pub invariant-loop-next : goal.invariant-loop-next
invariant-loop-next l = record {
  forward : l.from ≤ l.at;
  within : l.at ≤ length l.terminals;
  along : l.next ≤ length l.parts;
  pending : Pending (rules_of (map plain l.grammar.productions.now) l.grammar.nesting) (map (piece l.room) l.parts)
      (map (piece l.room) (drop l.next l.parts)) (drop l.from l.terminals) l.nodes (drop l.at l.terminals);
}
