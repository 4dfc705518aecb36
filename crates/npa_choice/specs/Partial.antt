-- What the private clauses of the search speak of: choices for some of the askers (partial assignments,
-- and their extensions: Mackworth 1977).
use Rattle.std.specs.Prelude.{◌≡◌, true, ℕ, ◌+◌, ◌≤◌, List, [], ◌∷◌, ◌++◌, Option, None, Some, slice_get, slice_set, length, replicate, Contains}
use Rattle.npa_sorts.specs.Subsorts.{Subsorts}
use Rattle.npa_term.specs.declared.term.Term.{Term}
use Rattle.npa_term.specs.declared.term.Var.{Var as Variable}
use Rattle.npa_match.specs.Branches.{branches}
use Rattle.npa_match.specs.Matching.{HasMatch, bound_pairs, read_pairs}
use Rattle.npa_choice.specs.declared.offer.Offer.{Offer}
use Rattle.npa_choice.specs.declared.partial.Partial.{Partial}
use Rattle.npa_choice.specs.declared.search.Turn.{Turn}
use Rattle.npa_choice.specs.declared.search.Turn.TheVariants.{Done, Closed, Next}
use Rattle.npa_choice.specs.Choices.{IsChoice}

-- the places that an offer takes
abbrev pub placed : Option ℕ → List ℕ
placed None = []
placed (Some n) = n ∷ []

-- the place isn't used, where there is one
pub record IsFree (used : List ℕ) (place : Option ℕ) : Type 0 where
  pub apart : (n : ℕ) → place ≡ Some n → Contains used n → ⊥

-- the bindings of a choice are a matcher of its pairs, and where it is said so there is no other
pub record IsWitnessed (o : Subsorts) (c : Partial) : Type 0 where
  pub witness : Contains (branches o (read_pairs c.pairs)) (bound_pairs c.bound)
  pub only : c.once ≡ true → length (branches o (read_pairs c.pairs)) ≤ 1

-- nothing is chosen for any of so many askers
pub record IsStart (askers : ℕ) (c : Partial) : Type 0 where
  pub chosen : c.chosen ≡ replicate askers None
  pub used : c.used ≡ []
  pub pairs : c.pairs ≡ []
  pub bound : c.bound ≡ []

-- an offer whose place is free and whose pairs are matched beside those of a choice
pub record IsOpen (o : Subsorts) (c : Partial) (f : Offer) : Type 0 where
  pub free : IsFree c.used f.place
  pub matched : HasMatch o (read_pairs c.pairs ++ read_pairs f.pairs)

-- none of the offers is
abbrev pub NoneOpen : Subsorts → Partial → List Offer → Type 0
NoneOpen o c fs = (n : ℕ) (f : Offer) → slice_get fs n ≡ Some f → IsOpen o c f → ⊥

-- the choice d is c with the offer f, of number n, for the asker at place k
pub record Adds (o : Subsorts) (c : Partial) (k n : ℕ) (f : Offer) (d : Partial) : Type 0 where
  pub chosen : d.chosen ≡ slice_set c.chosen k (Some n)
  pub used : d.used ≡ c.used ++ placed f.place
  pub pairs : read_pairs d.pairs ≡ read_pairs c.pairs ++ read_pairs f.pairs
  pub free : IsFree c.used f.place
  pub witnessed : IsWitnessed o d

-- the offer that a choice has for the asker at place k
pub record IsTaken (askers : List (List Offer)) (chosen : List (Option ℕ)) (k : ℕ) (f : Offer) : Type 0 where
  pub offers : List Offer
  pub number : ℕ
  pub asker : slice_get askers k ≡ Some offers
  pub chosen_ : slice_get chosen k ≡ Some (Some number)
  pub offer : slice_get offers number ≡ Some f

-- it is of some asker
pub record IsUser (askers : List (List Offer)) (chosen : List (Option ℕ)) (n : ℕ) : Type 0 where
  pub asker : ℕ
  pub offer : Offer
  pub taken : IsTaken askers chosen asker offer
  pub place : offer.place ≡ Some n

pub record IsGiver (askers : List (List Offer)) (chosen : List (Option ℕ)) (p : Term × Term) : Type 0 where
  pub asker : ℕ
  pub offer : Offer
  pub taken : IsTaken askers chosen asker offer
  pub pair : Contains (read_pairs offer.pairs) p

-- A choice for some of the askers: their offers take different places, and what it has used and the pairs
-- that it has are exactly those of these offers.
pub record IsHeld (o : Subsorts) (askers : List (List Offer)) (c : Partial) : Type 0 where
  pub as_many : length c.chosen ≡ length askers
  pub each : (k n : ℕ) → slice_get c.chosen k ≡ Some (Some n) → (f : Offer) × IsTaken askers c.chosen k f
  pub apart : (j k n : ℕ) (f g : Offer) → IsTaken askers c.chosen j f → IsTaken askers c.chosen k g →
      f.place ≡ Some n → g.place ≡ Some n → j ≡ k
  pub used : (k n : ℕ) (f : Offer) → IsTaken askers c.chosen k f → f.place ≡ Some n → Contains c.used n
  pub pairs : (k : ℕ) (f : Offer) → IsTaken askers c.chosen k f → (p : Term × Term) →
      Contains (read_pairs f.pairs) p → Contains (read_pairs c.pairs) p
  pub users : (n : ℕ) → Contains c.used n → IsUser askers c.chosen n
  pub givers : (p : Term × Term) → Contains (read_pairs c.pairs) p → IsGiver askers c.chosen p
  pub witnessed : IsWitnessed o c

-- a choice for all askers that agrees with one for some of them
pub record HasCompletion (o : Subsorts) (askers : List (List Offer)) (chosen : List (Option ℕ)) : Type 0 where
  pub at : List ℕ
  pub by_ : List (Variable × Term)
  pub is : IsChoice o askers at by_
  pub agrees : (k n : ℕ) → slice_get chosen k ≡ Some (Some n) → slice_get at k ≡ Some n

-- no asker waits
abbrev pub NoneWaits : List (Option ℕ) → Type 0
NoneWaits chosen = (k : ℕ) → slice_get chosen k ≡ Some None → ⊥

-- what a turn says of a choice
abbrev pub IsTurn : Subsorts → List (List Offer) → Partial → Turn → Type 0
IsTurn o askers c Done = NoneWaits c.chosen
IsTurn o askers c Closed = HasCompletion o askers c.chosen → ⊥
IsTurn o askers c (Next k) = slice_get c.chosen k ≡ Some None

abbrev pub as_turn : Option ℕ → Turn
as_turn None = Done
as_turn (Some k) = Next k

-- how many askers wait
abbrev pub waiting : List (Option ℕ) → ℕ
waiting [] = 0
waiting (None ∷ xs) = 1 + waiting xs
waiting (Some n ∷ xs) = waiting xs
