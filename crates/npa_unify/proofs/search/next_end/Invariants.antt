use Rattle.std.proofs.Common.{◌≡◌, length}
use Rattle.std.specs.Prelude.{Contains, flat_map}
use Rattle.npa_unify.specs.Branches.{Branch, ends, visited}
use Rattle.npa_unify.specs.Seen.{AreSound, IsReached, seen_all}
use Rattle.npa_unify.proofs.search.next_end.Given as goal

abbrev pub invariant-loop-state : goal.invariant-loop-state
invariant-loop-state l = record {
  ends : flat_map (ends l.sorts) (seen_all l.waiting.items) ≡ flat_map (ends l.sorts) (seen_all l.initial.waiting.items);
  sound : AreSound l.waiting.items;
  reached : (b : Branch) → Contains (seen_all l.waiting.items) b → IsReached l.sorts b;
}

abbrev pub decreases-loop-state : goal.decreases-loop-state
decreases-loop-state l = length (flat_map (visited l.sorts) (seen_all l.waiting.items))
