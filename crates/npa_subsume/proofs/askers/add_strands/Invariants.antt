use Rattle.npa_subsume.specs.Offering.{AreAdded, ForStrand}
use Rattle.npa_subsume.proofs.askers.add_strands.Given as goal

abbrev pub invariant-loop-p : goal.invariant-loop-p
invariant-loop-p l = AreAdded (ForStrand l.sorts l.qs) l.ps l.p-index l.initial.askers l.askers
