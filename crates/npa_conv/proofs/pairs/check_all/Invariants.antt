use Rattle.std.proofs.Common.{◌≡◌, drop}
use Rattle.npa_conv.specs.Verdict.{first_fault, pair_fault}
use Rattle.npa_conv.proofs.pairs.check_all.Given as goal

abbrev pub invariant-loop-s : goal.invariant-loop-s
invariant-loop-s l = first_fault (pair_fault l.th l.first l.crossed) (drop l.s-index l.found) ≡ first_fault (pair_fault l.th l.first l.crossed) l.found
