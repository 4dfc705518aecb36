use Rattle.std.proofs.Common.{◌≡◌, take}
use Rattle.npa_match.specs.Matching.{read_pairs}
use Rattle.npa_match.proofs.matching.borrowed.Given as goal

abbrev pub invariant-loop-t : goal.invariant-loop-t
invariant-loop-t l = read_pairs l.members.items ≡ take l.t-index l.pairs
