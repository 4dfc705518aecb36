-- The ground terms of the sorts of a signature, and the least of them.
use Rattle.std.specs.Prelude.{◌≡◌, ◌≢◌, ℕ, ◌<◌, ◌≤◌, ◌-◌, ◌^◌, min, true, List, [], ◌∷◌, Option, None, Some, Result, Ok, Err, slice_get}
use Rattle.std.specs.declared.cmp.Ordering.TheVariants.{Greater}
use Rattle.npa_sorts.specs.Subsorts.{Subsorts, IsSort, IsAtOrBelow}
use Rattle.npa_term.specs.declared.term.Op.{Op}
use Rattle.npa_term.specs.declared.term.Term.{Term}
use Rattle.npa_term.specs.declared.term.Term.TheVariants.{Name, App}
use Rattle.npa_term.specs.Order.{term_cmp}
use Rattle.npa_term.specs.Symbols.{symbol_count}
use Rattle.npa_term.specs.Variables.{IsGround}
use Rattle.npa_sig.specs.declared.signature.OpDecl.{OpDecl}
use Rattle.npa_sig.specs.declared.fault.LeastFail.{LeastFail}
use Rattle.npa_sig.specs.declared.fault.LeastFail.TheVariants.{Past, NoMemory}
use Rattle.npa_sig.specs.declared.fault.GroundFault.{GroundFault}
use Rattle.npa_sig.specs.declared.fault.GroundFault.TheVariants.{Inhabited, Ground}
use Rattle.npa_sig.specs.Signature.{Signature}
use Rattle.npa_sig.specs.Sorting.{well_sorted}
use Rattle.npa_term.specs.Parts.{least_sort}

-- the operator of a number and a declaration, as it stands in terms
abbrev pub declared_op : ℕ → OpDecl → Op
declared_op num decl = record { num = num; result = decl.result; «com» = decl.com }

mutual
  -- A ground term that is well sorted: a fresh name, or a declared operator on as many such terms
  -- as it has argument sorts, each of a least sort at or below its own (Goguen, Meseguer 1992, on
  -- the initial order-sorted algebra).
  pub data IsBuilt (o : Subsorts) (ops : List OpDecl) : Term → Type 0 where
    a_name : (n : ℕ) → IsBuilt o ops (Name n)
    an_application : (num : ℕ) (decl : OpDecl) (ts : List Term) → slice_get ops num ≡ Some decl →
        AreBuilt o ops decl.args ts → IsBuilt o ops (App (declared_op num decl) ts)

  -- as many such terms as sorts, each of a least sort at or below its own
  pub data AreBuilt (o : Subsorts) (ops : List OpDecl) : List ℕ → List Term → Type 0 where
    no_arguments : AreBuilt o ops [] []
    an_argument : (s : ℕ) (t : Term) (ss : List ℕ) (ts : List Term) → IsBuilt o ops t →
        IsAtOrBelow o (least_sort t) s → AreBuilt o ops ss ts → AreBuilt o ops (s ∷ ss) (t ∷ ts)

-- such a term of a sort: of a least sort at or below it
abbrev pub IsBuiltOf : Subsorts → List OpDecl → ℕ → Term → Type 0
IsBuiltOf o ops s t = IsBuilt o ops t × IsAtOrBelow o (least_sort t) s

-- A ground term of a sort: well sorted, without variables, of a least sort at or below the sort.
pub record IsTermOf (sig : Signature) (s : ℕ) (t : Term) : Type 0 where
  pub sorted : well_sorted sig t ≡ true
  pub ground : IsGround t
  pub below : IsAtOrBelow sig.sorts (least_sort t) s

-- No term is in the set.
abbrev pub IsEmpty : (Term → Type 0) → Type 0
IsEmpty P = (t : Term) → P t → ⊥

-- The least number of symbols of a term of the set, each number up to the greatest of 64 bits.
pub record IsLeastCount (P : Term → Type 0) (n : ℕ) : Type 0 where
  pub term : Term
  pub reached : P term
  pub count : min (symbol_count term) (2 ^ 64 - 1) ≡ n
  pub fewest : (t : Term) → P t → n ≤ symbol_count t

-- The term of the set with fewest symbols, and of those the first in the order of terms.
pub record IsLeastTerm (P : Term → Type 0) (t : Term) : Type 0 where
  pub is : P t
  pub fewest : (u : Term) → P u → symbol_count t ≤ symbol_count u
  pub first : (u : Term) → P u → symbol_count u ≡ symbol_count t → term_cmp t u ≢ Greater

-- Whether the set has a term, and which is the least.
abbrev pub IsLeastIn : (Term → Type 0) → Option Term → Type 0
IsLeastIn P None = IsEmpty P
IsLeastIn P (Some t) = IsLeastTerm P t

-- The least ground term of a sort, of at most 64 symbols; else that there is none, or how many
-- symbols it has.
abbrev pub IsLeastOf : Signature → ℕ → Result (Option Term) LeastFail → Type 0
IsLeastOf sig s (Ok None) = IsEmpty (IsTermOf sig s)
IsLeastOf sig s (Ok (Some t)) = IsLeastTerm (IsTermOf sig s) t × (symbol_count t ≤ 64)
IsLeastOf sig s (Err (Past n)) = (64 < n) × IsLeastCount (IsTermOf sig s) n
IsLeastOf sig s (Err NoMemory) = Unit {0}

-- Some ground term of the sort has at most 64 symbols.
abbrev pub IsSmall : Signature → ℕ → Type 0
IsSmall sig s = (n : ℕ) × (n ≤ 64) × IsLeastCount (IsTermOf sig s) n

-- The sort has a ground term.
abbrev pub IsInhabited : Signature → ℕ → Type 0
IsInhabited sig s = (t : Term) × IsTermOf sig s t

-- What is wrong with the ground terms of the sorts: the first sort that has none, or where all
-- have some, the first that has none of at most 64 symbols, with the least number.
abbrev pub IsGroundFault : Signature → Option GroundFault → Type 0
IsGroundFault sig None = (s : ℕ) → IsSort sig.sorts s → IsSmall sig s
IsGroundFault sig (Some (Inhabited s)) = IsSort sig.sorts s × IsEmpty (IsTermOf sig s)
    × ((r : ℕ) → r < s → IsInhabited sig r)
IsGroundFault sig (Some (Ground s n)) = IsSort sig.sorts s × (64 < n)
    × IsLeastCount (IsTermOf sig s) n × ((r : ℕ) → r < s → IsSmall sig r)
    × ((r : ℕ) → IsSort sig.sorts r → IsInhabited sig r)
