use Rattle.std.proofs.Common.{◌≡◌, drop}
use Rattle.npa_conv.specs.Overlaps.{holes}
use Rattle.npa_conv.specs.Verdict.{first_at, first_fault, overlap_fault, pairs_fault}
use Rattle.npa_conv.proofs.pairs.check_equation.Given as goal

abbrev pub invariant-loop-place : goal.invariant-loop-place
invariant-loop-place l =
    first_fault (λ p. first_at (overlap_fault l.th l.number l.equation p) 0 l.th.equations) (drop l.place (holes l.equation.left)) ≡ pairs_fault l.th l.number l.equation
