use Rattle.std.proofs.Common.{◌≡◌, ◌≤◌, ◌++◌, length}
use Rattle.npa_match.specs.Branches.{branches}
use Rattle.npa_match.proofs.matching.matches.Given as goal

abbrev pub invariant-loop-found : goal.invariant-loop-found
invariant-loop-found l = record {
  all : l.found ++ l.left ≡ branches l.sorts l.pairs;
  few : length l.found ≤ 4096;
}

abbrev pub decreases-loop-found : goal.decreases-loop-found
decreases-loop-found l = length l.left
