use Rattle.std.proofs.Common.{◌≡◌, ◌-◌, ◌++◌, length, drop}
use Rattle.std.specs.Prelude.{zip}
use Rattle.npa_unify.specs.Seen.{goal_pairs}
use Rattle.npa_unify.proofs.search.push_arguments.Given as goal

abbrev pub invariant-loop-i : goal.invariant-loop-i
invariant-loop-i l = goal_pairs l.goals.items ≡ zip (drop (length l.ts - l.i) l.ts) (drop (length l.ts - l.i) l.us) ++ goal_pairs l.initial.goals.items
