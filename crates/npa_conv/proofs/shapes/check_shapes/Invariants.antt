use Rattle.std.proofs.Common.{◌≡◌, drop}
use Rattle.npa_conv.specs.Verdict.{first_at, shape_fault}
use Rattle.npa_conv.proofs.shapes.check_shapes.Given as goal

abbrev pub invariant-loop-at : goal.invariant-loop-at
invariant-loop-at l = first_at (shape_fault l.th.sig.sorts) l.at (drop l.at l.th.equations) ≡ first_at (shape_fault l.th.sig.sorts) 0 l.th.equations
