use Rattle.std.proofs.Common.{◌≡◌, take}
use Rattle.std.specs.List.{flat_map}
use Rattle.npa_moves.specs.Finishing.{strand_terms}
use Rattle.npa_drafts.proofs.numbering.pattern_terms.Given as goal

abbrev pub invariant-loop-strand : goal.invariant-loop-strand
invariant-loop-strand l = l.terms ≡ flat_map strand_terms (take l.strand-index l.strand-items)
