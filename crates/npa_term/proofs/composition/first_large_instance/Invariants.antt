use Rattle.std.proofs.Common.{◌≡◌, map, drop}
use Rattle.npa_term.specs.Bound.{applied}
use Rattle.npa_term.specs.Canonical.{canonical}
use Rattle.npa_term.specs.Composition.{first_past}
use Rattle.npa_term.proofs.composition.first_large_instance.Given as goal

abbrev pub invariant-loop-t : goal.invariant-loop-t
invariant-loop-t l =
    first_past 1024 (map (λ b. (b.0, canonical (applied l.next b.1))) (drop l.t-index l.first))
    ≡ first_past 1024 (map (λ b. (b.0, canonical (applied l.next b.1))) l.first)
