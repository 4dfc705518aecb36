-- How many places there are for askers, in private clauses.
use Rattle.std.specs.Prelude.{◌≡◌, ℕ, List, Option, Some, slice_get}
use Rattle.npa_choice.specs.declared.offer.Offer.{Offer}

-- there is a place, and one of the offers takes it
pub record HasPlace (fs : List Offer) (place : Option ℕ) : Type 0 where
  pub number : ℕ
  pub at : ℕ
  pub offer : Offer
  pub is : place ≡ Some number
  pub there : slice_get fs at ≡ Some offer
  pub takes : offer.place ≡ Some number

-- each of the offers takes a place that one of the others takes too
abbrev pub AreBound : List Offer → List Offer → Type 0
AreBound fs room = (k : ℕ) (f : Offer) → slice_get fs k ≡ Some f → HasPlace room f.place
