use Rattle.std.proofs.Common.{◌≡◌, reverse}
use Rattle.npa_match.specs.Search.{waiting_ends, waiting_work}
use Rattle.npa_match.proofs.search.next_end.Given as goal

abbrev pub invariant-loop-branch : goal.invariant-loop-branch
invariant-loop-branch l = waiting_ends l.sorts (reverse l.waiting.items) ≡ waiting_ends l.sorts (reverse l.initial.waiting.items)

abbrev pub decreases-loop-branch : goal.decreases-loop-branch
decreases-loop-branch l = waiting_work (reverse l.waiting.items)
