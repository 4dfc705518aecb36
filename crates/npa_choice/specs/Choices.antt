-- Choices among offers: each asker gets one of the offers that are made to it, no place is taken twice,
-- and one substitution matches the pairs of terms of all that are chosen (assignments of constraint
-- networks: Mackworth 1977; matching modulo commutativity: Baader, Nipkow 1998).
use Rattle.std.specs.Prelude.{◌≡◌, ℕ, ◌<◌, List, Some, slice_get, length}
use Rattle.npa_sorts.specs.Subsorts.{Subsorts}
use Rattle.npa_term.specs.declared.term.Term.{Term}
use Rattle.npa_term.specs.declared.term.Var.{Var as Variable}
use Rattle.npa_match.specs.Matching.{Matches, read_pairs}
use Rattle.npa_choice.specs.declared.offer.Offer.{Offer}

-- the offer that is chosen for the asker at place k, by its number among the asker's offers
pub record IsChosen (askers : List (List Offer)) (at : List ℕ) (k : ℕ) (f : Offer) : Type 0 where
  pub offers : List Offer
  pub number : ℕ
  pub asker : slice_get askers k ≡ Some offers
  pub chosen : slice_get at k ≡ Some number
  pub offer : slice_get offers number ≡ Some f

-- one offer for each asker, different places, and a substitution that matches all pairs
pub record IsChoice (o : Subsorts) (askers : List (List Offer)) (at : List ℕ) (s : List (Variable × Term)) : Type 0 where
  pub as_many : length at ≡ length askers
  pub each : (k : ℕ) → k < length askers → (f : Offer) × IsChosen askers at k f
  pub apart : (j k n : ℕ) (f g : Offer) → IsChosen askers at j f → IsChosen askers at k g →
      f.place ≡ Some n → g.place ≡ Some n → j ≡ k
  pub matches : (k : ℕ) (f : Offer) → IsChosen askers at k f → Matches o (read_pairs f.pairs) s

-- there is a choice
pub record HasChoice (o : Subsorts) (askers : List (List Offer)) : Type 0 where
  pub at : List ℕ
  pub by_ : List (Variable × Term)
  pub is : IsChoice o askers at by_
