use Rattle.std.proofs.Common.{◌≡◌, map, take}
use Rattle.npa_term.specs.Bound.{applied}
use Rattle.npa_term.specs.Canonical.{canonical}
use Rattle.npa_variants.proofs.making.instances.Given as goal

abbrev pub invariant-loop-t : goal.invariant-loop-t
invariant-loop-t l = l.made.items ≡ map (λ t. canonical (applied l.s t)) (take l.t-index l.ts)
