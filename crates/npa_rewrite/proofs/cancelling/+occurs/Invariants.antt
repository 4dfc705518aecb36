use Rattle.std.proofs.Common.{take}
use Rattle.std.specs.Prelude.{Contains}
use Rattle.std.specs.List.{flat_map}
use Rattle.npa_term.specs.Variables.{variables}
use Rattle.npa_rewrite.proofs.cancelling.+occurs.Given as goal

abbrev pub invariant-loop-arg : goal.invariant-loop-arg
invariant-loop-arg l = Contains (flat_map variables (take l.arg-index l.arg-items)) l.v → ⊥
