use Rattle.std.proofs.Common.{◌≡◌, drop}
use Rattle.std.specs.Prelude.{flat_map}
use Rattle.npa_term.specs.Variables.{variables}
use Rattle.npa_unify.specs.Branches.{has_var}
use Rattle.npa_conv.proofs.shapes.+occurs.Given as goal

abbrev pub invariant-loop-arg : goal.invariant-loop-arg
invariant-loop-arg l = has_var (flat_map variables (drop l.arg-index l.arg-items)) l.v ≡ has_var (variables l.t) l.v
