-- What is offered to the strands and facts of a pattern by those of another, in private clauses.
use Rattle.std.specs.Prelude.{◌≡◌, ℕ, ◌<◌, List, [], ◌∷◌, ◌++◌, Option, None, Some, slice_get, length, zip, Contains}
use Rattle.npa_sorts.specs.Subsorts.{Subsorts}
use Rattle.npa_term.specs.declared.term.Term.{Term}
use Rattle.npa_match.specs.Matching.{HasMatch, read_pairs}
use Rattle.npa_choice.specs.declared.offer.Offer.{Offer}
use Rattle.npa_choice.specs.Choices.{IsChosen}
use Rattle.npa_model.specs.declared.pattern.PStrand.{PStrand}
use Rattle.npa_model.specs.declared.pattern.Pattern.{Pattern}

-- two strands that differ in their terms alone
pub record AreKindred (p q : PStrand) : Type 0 where
  pub strand : p.strand ≡ q.strand
  pub bar : p.bar ≡ q.bar
  pub args : length p.args ≡ length q.args
  pub msgs : length p.msgs ≡ length q.msgs

-- the terms of the first, each beside that of the second at its place
abbrev pub strand_pairs : PStrand → PStrand → List (Term × Term)
strand_pairs p q = zip p.args q.args ++ zip p.msgs q.msgs

-- the place and the pairs of one of the first n strands, as what p may be sent to
pub record OfStrand (p : PStrand) (qs : List PStrand) (n : ℕ) (place : Option ℕ) (pairs : List (Term × Term)) : Type 0 where
  pub at : ℕ
  pub strand : PStrand
  pub below : at < n
  pub there : slice_get qs at ≡ Some strand
  pub kindred : AreKindred p strand
  pub place_is : place ≡ Some at
  pub pairs_are : pairs ≡ strand_pairs p strand

-- the pair of one of the first n facts
pub record OfFact (t : Term) (us : List Term) (n : ℕ) (place : Option ℕ) (pairs : List (Term × Term)) : Type 0 where
  pub at : ℕ
  pub fact : Term
  pub below : at < n
  pub there : slice_get us at ≡ Some fact
  pub place_is : place ≡ None
  pub pairs_are : pairs ≡ (t, fact) ∷ []

-- an offer with this place and these pairs
pub record HasOffer (fs : List Offer) (place : Option ℕ) (pairs : List (Term × Term)) : Type 0 where
  pub offer : Offer
  pub among : Contains fs offer
  pub place_is : offer.place ≡ place
  pub pairs_are : read_pairs offer.pairs ≡ pairs

-- the offers are exactly those of P whose pairs have a matcher
pub record AreOffers (o : Subsorts) (P : Option ℕ → List (Term × Term) → Type 0) (fs : List Offer) : Type 0 where
  pub sound : (f : Offer) → Contains fs f → P f.place (read_pairs f.pairs)
  pub every : (place : Option ℕ) (pairs : List (Term × Term)) → P place pairs → HasMatch o pairs → HasOffer fs place pairs

-- offers to which one was added, where its pairs have a matcher
pub data IsGrown (o : Subsorts) (fs : List Offer) (place : Option ℕ) (pairs : List (Term × Term)) (gs : List Offer) : Type 0 where
  left_out : gs ≡ fs → (HasMatch o pairs → ⊥) → IsGrown o fs place pairs gs
  added : (f : Offer) → gs ≡ fs ++ f ∷ [] → f.place ≡ place → read_pairs f.pairs ≡ pairs → IsGrown o fs place pairs gs

-- the offers to a strand, and to a fact
abbrev pub ForStrand : Subsorts → List PStrand → PStrand → List Offer → Type 0
ForStrand o qs p fs = AreOffers o (OfStrand p qs (length qs)) fs

abbrev pub ForFact : Subsorts → List Term → Term → List Offer → Type 0
ForFact o us t fs = AreOffers o (OfFact t us (length us)) fs

-- askers to which one for each of the first n of these was added
pub record AreAdded {X : Type 0} (R : X → List Offer → Type 0) (xs : List X) (n : ℕ) (old new : List (List Offer)) : Type 0 where
  pub more : List (List Offer)
  pub behind : new ≡ old ++ more
  pub as_many : length more ≡ n
  pub each : (k : ℕ) (x : X) (fs : List Offer) → slice_get xs k ≡ Some x → slice_get more k ≡ Some fs → R x fs

-- the askers for the strands of t, its known facts and its unknown ones
pub record AreAskers (o : Subsorts) (t s : Pattern) (askers : List (List Offer)) : Type 0 where
  pub first : List (List Offer)
  pub second : List (List Offer)
  pub strands : AreAdded (ForStrand o s.strands) t.strands (length t.strands) [] first
  pub known : AreAdded (ForFact o s.known) t.known (length t.known) first second
  pub unknown : AreAdded (ForFact o s.unknown) t.unknown (length t.unknown) second askers

-- the places that the offers take that are chosen for the first so many askers
pub record ArePlaces (askers : List (List Offer)) (numbers : List ℕ) (count : ℕ) (places : List ℕ) : Type 0 where
  pub as_many : length places ≡ count
  pub each : (k m n : ℕ) (f : Offer) → slice_get places k ≡ Some m → IsChosen askers numbers k f → f.place ≡ Some n → m ≡ n
