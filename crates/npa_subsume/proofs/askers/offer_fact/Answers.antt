use Rattle.std.proofs.Common.{◌+◌, [], ◌∷◌, None, length, refl}
use Rattle.std.proofs.lemmas.Option.{slice_get_read}
use Rattle.npa_subsume.specs.Offering.{AreOffers, IsGrown, OfFact}
use Rattle.npa_subsume.proofs.Adding.{fact_offered, on_done}
use Rattle.npa_subsume.proofs.askers.offer_fact.Goals as goal

pub returns : goal.returns
returns c =
    let o = c.args.sorts.now in
    let t = c.args.t.now in
    let us = c.args.us.now in
    let u = c.index-us-at.result in
    let there = slice_get_read us (length us) c.args.at u refl c.requires.within c.index-us-at.is in
    on_done (IsGrown o c.args.offers.now None ((t, u) ∷ []) c.add_offer.new.offers) (AreOffers o (OfFact t us (c.args.at + 1)) c.add_offer.new.offers) c.add_offer.result
    (fact_offered o t us c.args.at u there c.args.offers.now c.add_offer.new.offers ((t, u) ∷ []) refl c.requires.offers) c.add_offer.ensures
