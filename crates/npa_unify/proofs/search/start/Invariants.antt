use Rattle.std.proofs.Common.{◌≡◌, ◌-◌, drop, length}
use Rattle.npa_unify.specs.Seen.{goal_pairs}
use Rattle.npa_unify.proofs.search.start.Given as goal

abbrev pub invariant-loop-i : goal.invariant-loop-i
invariant-loop-i l = goal_pairs l.goals.items ≡ drop (length l.members - l.i) l.members
