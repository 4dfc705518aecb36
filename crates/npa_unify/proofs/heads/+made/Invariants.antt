use Rattle.std.proofs.Common.{◌≡◌, map, take}
use Rattle.npa_term.specs.Canonical.{canonical}
use Rattle.npa_term.specs.Symbols.{symbol_count}
use Rattle.npa_unify.specs.Seen.{full, head_term, raw}
use Rattle.npa_unify.proofs.heads.+made.Given as goal

abbrev pub decreases-made : goal.decreases-made
decreases-made l = symbol_count (full (raw l.bound.now) (head_term l.head))

abbrev pub invariant-loop-arg : goal.invariant-loop-arg
invariant-loop-arg l = l.terms.items ≡ map (λ t. canonical (full (raw l.bound) t)) (take l.arg-index l.args)
