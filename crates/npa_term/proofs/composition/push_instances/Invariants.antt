use Rattle.std.proofs.Common.{◌≡◌, map, ◌++◌, take}
use Rattle.npa_term.specs.Bound.{applied}
use Rattle.npa_term.specs.Canonical.{canonical}
use Rattle.npa_term.proofs.composition.push_instances.Given as goal

abbrev pub invariant-loop-v : goal.invariant-loop-v
invariant-loop-v l = l.made.items ≡ l.initial.made.items ++ map (λ b. (b.0, canonical (applied l.next b.1))) (take l.v-index l.first)
