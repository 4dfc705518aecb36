use Rattle.std.proofs.Common.{take}
use Rattle.std.specs.List.{All}
use Rattle.npa_match.specs.Branches.{MatchesOnce}
use Rattle.npa_match.proofs.extension.+once.Given as goal

abbrev pub invariant-all_match_once-loop-t : goal.invariant-all_match_once-loop-t
invariant-all_match_once-loop-t l = All MatchesOnce (take l.t-index l.ts)
