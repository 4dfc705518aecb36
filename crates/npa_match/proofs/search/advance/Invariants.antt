use Rattle.std.proofs.Common.{◌≡◌, ◌≤◌}
use Rattle.npa_match.specs.Branches.{after_pairs}
use Rattle.npa_match.specs.Search.{goal_pairs, pair_symbols}
use Rattle.npa_match.specs.Matching.{bound_pairs}
use Rattle.npa_match.proofs.search.advance.Given as goal

abbrev pub invariant-loop-t : goal.invariant-loop-t
invariant-loop-t l = record {
  ends : after_pairs l.sorts (goal_pairs l.goals.items) (bound_pairs l.bound.items)
      ≡ after_pairs l.sorts (goal_pairs l.initial.goals.items) (bound_pairs l.initial.bound.items);
  fewer : pair_symbols (goal_pairs l.goals.items) ≤ pair_symbols (goal_pairs l.initial.goals.items);
}

abbrev pub decreases-loop-t : goal.decreases-loop-t
decreases-loop-t l = pair_symbols (goal_pairs l.goals.items)
