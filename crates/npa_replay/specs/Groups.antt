-- Parts of an aim that may hinder each other, since a variable occurs in both or they ask for the same
-- instances, and targets for some of the parts at once (constraint graphs: Freuder 1982).
use Rattle.std.specs.Prelude.{◌≡◌, Bool, true, unwrap_or, ℕ, ◌+◌, ◌*◌, ◌≤◌, List, [], ◌∷◌, ◌++◌, Some, map, slice_get, length, Contains}
use Rattle.std.specs.List.{flat_map}
use Rattle.npa_list.specs.Different.{AreDifferent}
use Rattle.npa_sorts.specs.Subsorts.{Subsorts}
use Rattle.npa_term.specs.declared.term.Var.{Var as Variable}
use Rattle.npa_term.specs.declared.term.Term.{Term}
use Rattle.npa_term.specs.Variables.{variables}
use Rattle.npa_match.specs.Matching.{Matches}
use Rattle.npa_model.specs.declared.aim.Part.{Part}
use Rattle.npa_model.specs.declared.aim.Part.TheVariants as part
use Rattle.npa_model.specs.declared.run.Instance.{Instance}
use Rattle.npa_model.specs.State.{State}
use Rattle.npa_replay.specs.Choices.{taken, AreFree, IsTarget, target_pairs}

-- the variables of a part's terms, one for each occurrence
abbrev pub part_variables : Part → List Variable
part_variables (part.Known t) = variables t
part_variables (part.Strand strand bar args) = flat_map variables args

abbrev pub numbers_of : List Variable → List ℕ
numbers_of vs = map (λ (v : Variable). v.num) vs

-- the numbers of these variables
abbrev pub variable_keys : Part → List ℕ
variable_keys p = numbers_of (part_variables p)

-- one number for the strand and the bar of the instances that a part asks for
abbrev pub strand_keys : Part → List ℕ
strand_keys (part.Known t) = []
strand_keys (part.Strand strand bar args) = (strand * 64 + bar) ∷ []

-- whether a table has a mark for a key: one past its end counts as marked
abbrev pub is_marked : List Bool → ℕ → Bool
is_marked marks key = unwrap_or (slice_get marks key) true

-- the places of all lists that share a key with this one, perhaps of more
abbrev pub HasSharers : List ℕ → List (List ℕ) → List ℕ → Type 0
HasSharers own keys ns = (j key : ℕ) (ls : List ℕ) → slice_get keys j ≡ Some ls → Contains own key → Contains ls key → Contains ns j

-- such places for each of the lists
pub record AreLinks (keys links : List (List ℕ)) : Type 0 where
  pub even : length links ≡ length keys
  pub every : (i : ℕ) (own ns : List ℕ) → slice_get keys i ≡ Some own → slice_get links i ≡ Some ns → HasSharers own keys ns

-- the places up to `k` to which place i is linked are among these
abbrev pub HasLinked : List (List ℕ) → ℕ → List ℕ → ℕ → Type 0
HasLinked links k ns i = (js : List ℕ) → slice_get links i ≡ Some js → (j : ℕ) → Contains js j → j ≤ k → Contains ns j

-- and so for each of these places
abbrev pub IsClosed : List (List ℕ) → ℕ → List ℕ → Type 0
IsClosed links k ns = (i : ℕ) → Contains ns i → HasLinked links k ns i

-- Places that were added behind others: no number stands twice, and none is past k, where it was so
-- before.
pub record IsGrown (k : ℕ) (old new : List ℕ) : Type 0 where
  pub more : List ℕ
  pub behind : new ≡ old ++ more
  pub different : AreDifferent old → AreDifferent new
  pub within : ((i : ℕ) → Contains old i → i ≤ k) → (i : ℕ) → Contains new i → i ≤ k

-- Targets for the parts at the places of which B speaks, by place, and one substitution: the parts
-- take different instances, and it matches the pairs of each of them.
module _ (instances : List Instance) (state : State) (o : Subsorts) (parts : List Part) where
  pub record IsChoice (B : ℕ → Type 0) (at : ℕ → ℕ) (s : List (Variable × Term)) : Type 0 where
    pub targets : (i : ℕ) (p : Part) → slice_get parts i ≡ Some p → B i → IsTarget instances state p (at i)
    pub apart : (i j : ℕ) (p q : Part) → slice_get parts i ≡ Some p → slice_get parts j ≡ Some q → B i → B j → (i ≡ j → ⊥) → AreFree (taken p (at i)) (taken q (at j))
    pub matches : (i : ℕ) (p : Part) → slice_get parts i ≡ Some p → B i → Matches o (target_pairs instances state p (at i)) s

  -- there is one
  pub record HasChoice (B : ℕ → Type 0) : Type 0 where
    pub at : ℕ → ℕ
    pub by_ : List (Variable × Term)
    pub is : IsChoice B at by_
