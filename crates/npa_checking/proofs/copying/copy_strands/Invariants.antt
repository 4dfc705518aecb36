use Rattle.std.proofs.Common.{◌≡◌, take}
use Rattle.npa_checking.proofs.copying.copy_strands.Given as goal

abbrev pub invariant-loop-strand : goal.invariant-loop-strand
invariant-loop-strand l = l.copies.items ≡ take l.strand-index l.strands
