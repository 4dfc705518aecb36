use Rattle.std.proofs.Common.{◌≡◌, map, drop}
use Rattle.npa_term.specs.Canonical.{canonical}
use Rattle.npa_term.specs.Composition.{unbound, first_past}
use Rattle.npa_term.proofs.composition.first_large_unbound.Given as goal

abbrev pub invariant-loop-v : goal.invariant-loop-v
invariant-loop-v l =
    first_past 1024 (map (λ b. (b.0, canonical b.1)) (unbound l.first (drop l.v-index l.next)))
    ≡ first_past 1024 (map (λ b. (b.0, canonical b.1)) (unbound l.first l.next))
