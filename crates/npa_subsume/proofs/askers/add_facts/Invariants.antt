use Rattle.npa_subsume.specs.Offering.{AreAdded, ForFact}
use Rattle.npa_subsume.proofs.askers.add_facts.Given as goal

abbrev pub invariant-loop-t : goal.invariant-loop-t
invariant-loop-t l = AreAdded (ForFact l.sorts l.us) l.ts l.t-index l.initial.askers l.askers
