use Rattle.std.proofs.Common.{◌<◌, length}
use Rattle.npa_replay.proofs.search.narrowest.Given as goal

abbrev pub invariant-loop-at : goal.invariant-loop-at
invariant-loop-at l = record {
  within : l.first < length l.places;
  some : 0 < l.least;
}
