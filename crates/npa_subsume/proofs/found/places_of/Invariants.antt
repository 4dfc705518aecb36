use Rattle.npa_subsume.specs.Offering.{ArePlaces}
use Rattle.npa_subsume.proofs.found.places_of.Given as goal

abbrev pub invariant-loop-k : goal.invariant-loop-k
invariant-loop-k l = ArePlaces l.askers l.numbers l.k l.places
