-- The sorts of terms (order-sorted algebra, Goguen and Meseguer 1992).
use Rattle.std.specs.Prelude.{◌≡◌, ℕ, ◌+◌, Bool, true, false, ◌==◌, ◌&&◌, nat_lt, List, [], ◌∷◌, Option, None, Some, slice_get}
use Rattle.npa_sorts.specs.Subsorts.{at_or_below}
use Rattle.npa_term.specs.declared.term.Op.{Op}
use Rattle.npa_term.specs.declared.term.Term.{Term, Var, Name, App', Row_of-Term, end_of-Term, more_of-Term}
use Rattle.npa_term.specs.Parts.{least_sort}
use Rattle.npa_term.specs.Variables.{IsGround}
use Rattle.npa_sig.specs.declared.signature.OpDecl.{OpDecl}
use Rattle.npa_sig.specs.Signature.{Signature}

-- a number that stands for a sort: 0 for messages, 1 for fresh values, and from 2 on the declared ones
abbrev pub is_sort : Signature → ℕ → Bool
is_sort sig s = nat_lt s (sig.sorts.declared + 2)

-- whether a sort is at or below another
abbrev pub is_below : Signature → ℕ → ℕ → Bool
is_below sig s t = at_or_below sig.sorts s t

abbrev pub same_bool : Bool → Bool → Bool
same_bool true b = b
same_bool false true = false
same_bool false false = true

-- the operator is the one that was declared
abbrev pub agrees : Op → OpDecl → Bool
agrees op decl = op.result == decl.result && same_bool op.com decl.com

-- each sort is at or below the declared one, and there are as many
abbrev pub all_below : Signature → List ℕ → List ℕ → Bool
all_below sig [] [] = true
all_below sig (s ∷ ss) (t ∷ ts) = is_below sig s t && all_below sig ss ts
all_below sig [] (t ∷ ts) = false
all_below sig (s ∷ ss) [] = false

-- the operator is declared so, for arguments of these sorts
abbrev pub is_declared : Signature → Op → List ℕ → Option OpDecl → Bool
is_declared sig op sorts None = false
is_declared sig op sorts (Some decl) = agrees op decl && all_below sig sorts decl.args

abbrev mutual
  -- each operator is declared so, and each argument's least sort is at or below the declared one
  pub well_sorted : Signature → Term → Bool
  well_sorted sig (Var v) = is_sort sig v.sort
  well_sorted sig (Name n) = true
  well_sorted sig (App' op n args) = is_declared sig op (sorts_of_row args) (slice_get sig.ops op.num) && well_sorted_row sig args

  pub well_sorted_row : {m : _} → Signature → Row_of-Term m → Bool
  well_sorted_row sig end_of-Term = true
  well_sorted_row sig (more_of-Term t rest) = well_sorted sig t && well_sorted_row sig rest

  pub sorts_of_row : {m : _} → Row_of-Term m → List ℕ
  sorts_of_row end_of-Term = []
  sorts_of_row (more_of-Term t rest) = least_sort t ∷ sorts_of_row rest

-- a ground term: well sorted and without variables
pub record IsGroundTerm (sig : Signature) (t : Term) : Type 0 where
  pub sorted : well_sorted sig t ≡ true
  pub ground : IsGround t
