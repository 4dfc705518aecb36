use Rattle.std.proofs.Common.{◌≡◌, take}
use Rattle.npa_variants.specs.Told.{seen}
use Rattle.npa_moves.specs.Moves.{each_with}
use Rattle.npa_sets.proofs.solving.pairs_with.Given as goal

abbrev pub invariant-loop-t : goal.invariant-loop-t
invariant-loop-t l = l.pairs ≡ each_with l.message (seen (take l.t-index l.taken))
