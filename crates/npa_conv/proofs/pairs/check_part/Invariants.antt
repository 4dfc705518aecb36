use Rattle.std.proofs.Common.{◌≡◌, drop}
use Rattle.npa_conv.specs.Places.{hole_at}
use Rattle.npa_conv.specs.Verdict.{first_at, overlap_fault}
use Rattle.npa_conv.proofs.pairs.check_part.Given as goal

abbrev pub invariant-loop-at : goal.invariant-loop-at
invariant-loop-at l =
    first_at (overlap_fault l.th l.part.number l.part.equation.now (hole_at l.part.equation.now.left l.part.place)) l.at (drop l.at l.th.equations)
    ≡ first_at (overlap_fault l.th l.part.number l.part.equation.now (hole_at l.part.equation.now.left l.part.place)) 0 l.th.equations
