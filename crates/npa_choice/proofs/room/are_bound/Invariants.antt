use Rattle.std.proofs.Common.{◌≡◌, ◌<◌, ℕ, Some, slice_get}
use Rattle.npa_choice.specs.declared.offer.Offer.{Offer}
use Rattle.npa_choice.specs.Room.{HasPlace}
use Rattle.npa_choice.proofs.room.are_bound.Given as goal

abbrev pub invariant-loop-offer : goal.invariant-loop-offer
invariant-loop-offer l = (k : ℕ) (f : Offer) → k < l.offer-index → slice_get l.offers k ≡ Some f → HasPlace l.room f.place
