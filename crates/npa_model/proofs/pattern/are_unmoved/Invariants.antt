use Rattle.std.proofs.Common.{take}
use Rattle.npa_model.specs.Patterns.{AreUnmoved}
use Rattle.npa_model.proofs.pattern.are_unmoved.Given as goal

abbrev pub invariant-loop-strand : goal.invariant-loop-strand
invariant-loop-strand l = AreUnmoved (take l.strand-index l.strands)
