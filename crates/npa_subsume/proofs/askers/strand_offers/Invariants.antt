use Rattle.npa_subsume.specs.Offering.{AreOffers, OfStrand}
use Rattle.npa_subsume.proofs.askers.strand_offers.Given as goal

abbrev pub invariant-loop-at : goal.invariant-loop-at
invariant-loop-at l = AreOffers l.sorts (OfStrand l.p l.qs l.at) l.offers
