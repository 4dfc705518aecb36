use Rattle.std.proofs.Common.{take}
use Rattle.std.specs.List.{All}
use Rattle.npa_match.specs.Branches.{MatchesOnce}
use Rattle.npa_match.proofs.extension.match_once.Given as goal

abbrev pub invariant-loop-t : goal.invariant-loop-t
invariant-loop-t l = All (λ p. MatchesOnce p.0.now) (take l.t-index l.pairs)
