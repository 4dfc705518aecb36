use Rattle.npa_subsume.specs.Offering.{AreOffers, OfFact}
use Rattle.npa_subsume.proofs.askers.fact_offers.Given as goal

abbrev pub invariant-loop-at : goal.invariant-loop-at
invariant-loop-at l = AreOffers l.sorts (OfFact l.t l.us l.at) l.offers
