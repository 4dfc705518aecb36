use Rattle.std.proofs.Common.{◌≡◌, drop}
use Rattle.npa_conv.specs.Verdict.{first_at, pairs_fault}
use Rattle.npa_conv.proofs.pairs.check_pairs.Given as goal

abbrev pub invariant-loop-at : goal.invariant-loop-at
invariant-loop-at l = first_at (pairs_fault l.th) l.at (drop l.at l.th.equations) ≡ first_at (pairs_fault l.th) 0 l.th.equations
