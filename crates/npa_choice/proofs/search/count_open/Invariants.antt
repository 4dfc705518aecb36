use Rattle.std.proofs.Common.{◌≡◌, ◌<◌, ◌≤◌, ℕ, Some, slice_get}
use Rattle.npa_choice.specs.declared.offer.Offer.{Offer}
use Rattle.npa_choice.specs.Partial.{IsOpen}
use Rattle.npa_choice.proofs.search.count_open.Given as goal

abbrev pub invariant-loop-offer : goal.invariant-loop-offer
invariant-loop-offer l = record {
  closed : l.count ≡ 0 → (n : ℕ) (f : Offer) → n < l.offer-index → slice_get l.offers n ≡ Some f → IsOpen l.sorts l.choice f → ⊥;
  few : l.count ≤ l.offer-index;
  most : l.count ≤ l.most;
}
