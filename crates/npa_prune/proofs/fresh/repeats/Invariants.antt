use Rattle.std.proofs.Common.{◌≡◌, ◌++◌, drop, List}
use Rattle.npa_term.specs.declared.term.Term.{Term}
use Rattle.npa_prune.specs.Repeating.{repeats}
use Rattle.npa_prune.proofs.fresh.repeats.Given as goal

abbrev pub invariant-loop-value : goal.invariant-loop-value
invariant-loop-value l = (rest : List Term) → repeats l.fn.seen (l.values ++ rest) ≡ repeats l.seen (drop l.value-index l.values ++ rest)
