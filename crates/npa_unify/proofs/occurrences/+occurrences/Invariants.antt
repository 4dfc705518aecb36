use Rattle.std.proofs.Common.{◌≡◌, ◌+◌, ◌*◌, map, drop, get_or}
use Rattle.std.specs.Prelude.{flat_map}
use Rattle.npa_term.specs.Symbols.{symbol_count, all_count}
use Rattle.npa_term.specs.Variables.{variables}
use Rattle.npa_unify.specs.Branches.{has_var}
use Rattle.npa_unify.specs.Seen.{AreKnown, full, have, head_term, raw}
use Rattle.npa_unify.proofs.occurrences.+occurrences.Given as goal

abbrev pub decreases-is_in_value : goal.decreases-is_in_value
decreases-is_in_value l = 4 * get_or (map (λ b. symbol_count (full (raw l.bound.now) b.1)) (raw l.bound.now)) l.at 0 + 1

abbrev pub decreases-is_in_head : goal.decreases-is_in_head
decreases-is_in_head l = 4 * symbol_count (full (raw l.bound.now) (head_term l.head))

abbrev pub decreases-is_in_some : goal.decreases-is_in_some
decreases-is_in_some l = 4 * all_count (map (full (raw l.bound.now)) l.terms.now) + 3

abbrev pub decreases-is_in_term : goal.decreases-is_in_term
decreases-is_in_term l = 4 * symbol_count (full (raw l.bound.now) l.t.now) + 2

abbrev pub invariant-is_in_some-loop-t : goal.invariant-is_in_some-loop-t
invariant-is_in_some-loop-t l = record {
  rest : has_var (flat_map variables (map (full (raw l.bound)) (drop l.t-index l.terms))) l.v ≡ has_var (flat_map variables (map (full (raw l.bound)) l.terms)) l.v;
  known : AreKnown l.known.items (have l.v (raw l.bound));
}
