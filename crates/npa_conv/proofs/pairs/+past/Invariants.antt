use Rattle.std.proofs.Common.{◌≡◌, drop}
use Rattle.std.specs.Prelude.{max, flat_map}
use Rattle.npa_term.specs.Variables.{variables}
use Rattle.npa_conv.specs.Overlaps.{past}
use Rattle.npa_conv.proofs.pairs.+past.Given as goal

abbrev pub invariant-loop-arg : goal.invariant-loop-arg
invariant-loop-arg l = max l.most (past (flat_map variables (drop l.arg-index l.arg-items))) ≡ past (variables l.t)
