use Rattle.std.proofs.Common.{◌+◌, Some, length, refl, ap, ◌∙◌}
use Rattle.std.proofs.lemmas.Option.{slice_get_read}
use Rattle.npa_match.specs.Matching.{read_pairs}
use Rattle.npa_subsume.specs.Offering.{AreOffers, IsGrown, OfStrand}
use Rattle.npa_subsume.proofs.Adding.{strand_offered, on_done}
use Rattle.npa_subsume.proofs.askers.offer_strand.Goals as goal

pub returns : goal.returns
returns c =
    let o = c.args.sorts.now in
    let p = c.args.p.now in
    let qs = c.args.qs.now in
    let q = c.index-qs-at.result in
    let pairs = read_pairs c.as_slice.result.now in
    let there = slice_get_read qs (length qs) c.args.at q refl c.requires.within c.index-qs-at.is in
    let kindred = c.are_kindred.ensures.0 c.if-not-are_kindred.false in
    on_done (IsGrown o c.args.offers.now (Some c.args.at) pairs c.add_offer.new.offers) (AreOffers o (OfStrand p qs (c.args.at + 1)) c.add_offer.new.offers) c.add_offer.result
    (strand_offered o p qs c.args.at q there c.args.offers.now c.add_offer.new.offers pairs kindred (ap read_pairs c.as_slice.ensures ∙ c.in_ok-pairs.ensures) c.requires.offers) c.add_offer.ensures
