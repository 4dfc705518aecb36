-- How the parts of an aim are met one after another: each by an instance or by a sent term, so that
-- one substitution matches the terms of all parts (matching modulo commutativity: Baader, Nipkow
-- 1998; attack patterns: Escobar, Meadows, Meseguer 2009).
use Rattle.std.specs.Prelude.{◌≡◌, true, ℕ, ◌+◌, ◌<◌, ◌≤◌, List, [], ◌∷◌, ◌++◌, Option, None, Some, slice_get, length, take, zip, Contains}
use Rattle.std.specs.List.{AllZip}
use Rattle.npa_sorts.specs.Subsorts.{Subsorts}
use Rattle.npa_term.specs.declared.term.Term.{Term}
use Rattle.npa_match.specs.Matching.{HasMatch, HasMatcher}
use Rattle.npa_model.specs.declared.aim.Part.{Part}
use Rattle.npa_model.specs.declared.aim.Part.TheVariants as part
use Rattle.npa_model.specs.declared.run.Instance.{Instance}
use Rattle.npa_sig.specs.Signature.{Signature}
use Rattle.npa_sig.specs.Sorting.{is_below, IsGroundTerm}
use Rattle.npa_term.specs.Parts.{least_sort as sort_of}
use Rattle.npa_model.specs.State.{State, done_of}

-- the instances that a part's target takes: none is left for another part
abbrev pub taken : Part → ℕ → List ℕ
taken (part.Known t) n = []
taken (part.Strand strand bar args) n = n ∷ []

-- none of the instances is taken
pub record AreFree (used ns : List ℕ) : Type 0 where
  pub apart : (n : ℕ) → Contains ns n → Contains used n → ⊥

abbrev pub with_values : List Term → Option Instance → List (Term × Term)
with_values args None = []
with_values args (Some instance) = zip args instance.args

abbrev pub with_term : Term → Option Term → List (Term × Term)
with_term t None = []
with_term t (Some u) = (t, u) ∷ []

abbrev pub with_part : Option Part → List Part → List Part
with_part None ps = ps
with_part (Some p) ps = p ∷ ps

-- the parts at these places, in this order
abbrev pub picked : List Part → List ℕ → List Part
picked parts [] = []
picked parts (n ∷ ns) = with_part (slice_get parts n) (picked parts ns)

module _ (instances : List Instance) (state : State) where
  -- an instance of the strand that has executed so many events
  abbrev pub IsAt : ℕ → ℕ → ℕ → Type 0
  IsAt strand bar n = (instance : Instance) × (slice_get instances n ≡ Some instance) × (instance.strand ≡ strand) × (done_of state n ≡ bar)

  -- What may meet a part, by its number: an instance of the strand that has executed so many
  -- events, or the place of a sent term.
  abbrev pub IsTarget : Part → ℕ → Type 0
  IsTarget (part.Known t) n = n < length state.sent
  IsTarget (part.Strand strand bar args) n = IsAt strand bar n

  -- the terms of the part, each beside the term that it has to equal there
  abbrev pub target_pairs : Part → ℕ → List (Term × Term)
  target_pairs (part.Known t) n = with_term t (slice_get state.sent n)
  target_pairs (part.Strand strand bar args) n = with_values args (slice_get instances n)

  -- The parts can be met one after another, each by a target that takes no instance that is used,
  -- so that all pairs together are as `leaf` says.
  pub data Can (leaf : List (Term × Term) → Type 0) : List Part → List ℕ → List (Term × Term) → Type 0 where
    done : (used : List ℕ) (pairs : List (Term × Term)) → leaf pairs → Can leaf [] used pairs
    next : (p : Part) (parts : List Part) (used : List ℕ) (pairs : List (Term × Term)) (n : ℕ) → IsTarget p n → AreFree used (taken p n) →
        Can leaf parts (used ++ taken p n) (pairs ++ target_pairs p n) → Can leaf (p ∷ parts) used pairs

  module _ (o : Subsorts) where
    -- the greatest number of parts that can be met beside what is used and these pairs
    pub record IsMost (parts : List Part) (used : List ℕ) (pairs : List (Term × Term)) (most : ℕ) : Type 0 where
      pub within : most ≤ length parts
      pub met : Can (HasMatcher o) (take most parts) used pairs
      pub missed : most < length parts → Can (HasMatch o) (take (most + 1) parts) used pairs → ⊥

    -- a target that is free and whose pairs can be matched beside the others
    pub record IsOpen (used : List ℕ) (pairs : List (Term × Term)) (p : Part) (n : ℕ) : Type 0 where
      pub free : AreFree used (taken p n)
      pub matched : HasMatch o (pairs ++ target_pairs p n)

    -- Targets of a part among which there is, for each target that can be matched by itself, one
    -- that takes the same instances and has the same pairs.
    pub record AreCandidates (p : Part) (ns : List ℕ) : Type 0 where
      pub targets : (n : ℕ) → Contains ns n → IsTarget p n
      pub every : (n : ℕ) → IsTarget p n → HasMatch o (target_pairs p n) →
          (m : ℕ) × Contains ns m × (taken p m ≡ taken p n) × (target_pairs p m ≡ target_pairs p n)

    -- candidates for each part, in order
    pub record AreAllCandidates (parts : List Part) (candidates : List (List ℕ)) : Type 0 where
      pub even : length candidates ≡ length parts
      pub each : AllZip AreCandidates parts candidates

-- a well-sorted ground term of a sort at or below this one
pub record HasGroundTerm (sig : Signature) (sort : ℕ) : Type 0 where
  pub term : Term
  pub good : IsGroundTerm sig term
  pub below : is_below sig (sort_of term) sort ≡ true

-- there is one of each sort
pub record HaveGroundTerms (sig : Signature) (sorts : List ℕ) : Type 0 where
  pub each : (i s : ℕ) → slice_get sorts i ≡ Some s → HasGroundTerm sig s
