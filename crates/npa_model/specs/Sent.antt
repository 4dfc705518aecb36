-- How a sent term is found again: by a number made from the term, under which its places are noted.
use Rattle.std.specs.Prelude.{◌≡◌, ℕ, ◌+◌, ◌*◌, ◌%◌, ◌^◌, List, [], ◌∷◌, Some, slice_get, unwrap_or, Contains, nat_eq}
use Rattle.indexmap.specs.IndexMap.{IndexMap, get}
use Rattle.npa_term.specs.declared.term.Term.{Term, Row_of-Term, end_of-Term, more_of-Term}
use Rattle.npa_term.specs.declared.term.Term.TheVariants.{Var, Name, App'}

-- a number is taken into a fingerprint, as a step of a congruential generator (Knuth 1997, on
-- linear congruential sequences; the multiplier is that of MMIX)
abbrev pub mixed : ℕ → ℕ → ℕ
mixed hash n = ((hash * 6364136223846793005) % 2 ^ 64 + n) % 2 ^ 64

abbrev mutual
  -- the fingerprint of a term that is read behind others
  pub fingerprint : ℕ → Term → ℕ
  fingerprint hash (Var v) = mixed (mixed (mixed hash 1) v.num) v.sort
  fingerprint hash (Name n) = mixed (mixed hash 2) n
  fingerprint hash (App' op n args) = row_fingerprint (mixed (mixed hash 3) op.num) args

  pub row_fingerprint : {n : _} → ℕ → Row_of-Term n → ℕ
  row_fingerprint hash end_of-Term = hash
  row_fingerprint hash (more_of-Term t rest) = row_fingerprint (fingerprint hash t) rest

abbrev pub all_fingerprint : ℕ → List Term → ℕ
all_fingerprint hash [] = hash
all_fingerprint hash (t ∷ ts) = all_fingerprint (fingerprint hash t) ts

-- the places that are noted under a fingerprint
abbrev pub places_at : {S : Type 0} → IndexMap ℕ (List ℕ) S → ℕ → List ℕ
places_at places hash = unwrap_or (get nat_eq places hash) []

-- the place of each term is noted under its fingerprint
abbrev pub AreNoted : {S : Type 0} → IndexMap ℕ (List ℕ) S → List Term → Type 0
AreNoted places terms = (i : ℕ) (t : Term) → slice_get terms i ≡ Some t → Contains (places_at places (fingerprint 0 t)) i
