use Rattle.std.proofs.Common.{refl, ap}
use Rattle.npa_match.specs.Matching.{read_pairs}
use Rattle.npa_subsume.specs.Offering.{added}
use Rattle.npa_subsume.proofs.askers.add_offer.Goals as goal

pub returns-in_ok-push : goal.returns-in_ok-push
returns-in_ok-push c = added (record { place = c.args.place; pairs = c.in_ok-pairs.pairs }) c.in_ok-push.ensures.ok refl (ap read_pairs c.in_ok-pairs.ensures)
