use Rattle.std.proofs.Common.{◌≡◌, ◌+◌, ◌-◌, ◌*◌, drop, length}
use Rattle.npa_variants.specs.Told.{seen}
use Rattle.npa_moves.specs.Picks.{picks_from}
use Rattle.npa_sets.specs.Sets.{sets_from}
use Rattle.npa_sets.specs.Told.{as_kept}
use Rattle.npa_sets.proofs.sets.+sets.Given as goal

abbrev pub decreases-extend : goal.decreases-extend
decreases-extend l = 2 * (length l.problem.now.facts.now - l.from) + 1

abbrev pub decreases-with_fact : goal.decreases-with_fact
decreases-with_fact l = 2 * (length l.problem.now.facts.now - l.at)

abbrev pub invariant-extend-loop-at : goal.invariant-extend-loop-at
invariant-extend-loop-at l =
    sets_from l.problem.sorts.now l.problem.next l.problem.message.now (picks_from (seen l.taken) (seen l.left.items) l.places l.at (drop l.at l.problem.facts.now)) (as_kept l.found)
    ≡ sets_from l.problem.sorts.now l.problem.next l.problem.message.now (picks_from (seen l.fn.taken) (seen l.fn.left) l.fn.places l.fn.from (drop l.fn.from l.problem.facts.now)) (as_kept l.fn.found)
