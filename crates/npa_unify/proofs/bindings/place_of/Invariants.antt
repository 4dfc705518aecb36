use Rattle.std.proofs.Common.{map, take}
use Rattle.std.specs.Prelude.{Contains}
use Rattle.npa_unify.specs.Seen.{raw}
use Rattle.npa_unify.proofs.bindings.place_of.Given as goal

abbrev pub invariant-loop-at : goal.invariant-loop-at
invariant-loop-at l = Contains (map (λ b. b.0) (raw (take l.at l.bound))) l.v → ⊥
