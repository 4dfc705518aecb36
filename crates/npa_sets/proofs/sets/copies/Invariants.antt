use Rattle.std.proofs.Common.{◌≡◌, ◌++◌, take}
use Rattle.npa_variants.specs.Told.{seen}
use Rattle.npa_sets.proofs.sets.copies.Given as goal

abbrev pub invariant-loop-t : goal.invariant-loop-t
invariant-loop-t l = l.terms ≡ seen (take l.t-index l.left)

abbrev pub invariant-loop-t-2 : goal.invariant-loop-t-2
invariant-loop-t-2 l = l.terms ≡ seen l.left ++ take l.t-index l.rest
