-- Signatures: the sorts and the operators of a module (order-sorted signatures, Goguen and Meseguer
-- 1992).
use Rattle.std.specs.Prelude.{◌≡◌, ◌+◌, ◌==◌, ◌&&◌, not, ℕ, Bool, false, List, [], ◌∷◌, ◌++◌, Option, None, Some, is_some, map, length, cond, Result, Ok, Err}
use Rattle.std.specs.Option.{option_or}
use Rattle.npa_sorts.specs.Subsorts.{Subsorts}
use Rattle.npa_names.specs.Names.{place_of}
use Rattle.npa_sig.specs.declared.signature.OpDecl.{OpDecl}
use Rattle.npa_sig.specs.declared.fault.SigFail.{SigFail}
use Rattle.npa_sig.specs.declared.fault.SigFail.TheVariants.{Fresh, Comm, Twice, NoMemory}

-- The sorts with their order, the names of the declared sorts, and the operators. A declared sort's
-- number is its place counted from 2, an operator's number is its place.
pub record Signature : Type 0 where
  pub sorts : Subsorts
  pub sort_names : List (List ℕ)
  pub ops : List OpDecl

-- Msg and Fresh, and no operator
abbrev pub bare : Signature
bare = record { sorts = record { declared = 0; pairs = [] }; sort_names = []; ops = [] }

-- the names of the operators, in order
abbrev pub names_of : List OpDecl → List (List ℕ)
names_of ops = map (λ decl. decl.name) ops

-- the number of the operator of this name
abbrev pub number_of : Signature → List ℕ → Option ℕ
number_of sig name = place_of name (names_of sig.ops)

-- two arguments of one sort, which a commutative operator takes
abbrev pub is_pair : List ℕ → Bool
is_pair [] = false
is_pair (s ∷ []) = false
is_pair (s ∷ t ∷ []) = s == t
is_pair (s ∷ t ∷ u ∷ ss) = false

-- Why an operator can't be declared as number k behind operators of these names: its result is Fresh,
-- it is commutative without two arguments of one sort, or it has the name of an earlier one.
abbrev pub op_fault : ℕ → List (List ℕ) → OpDecl → Option SigFail
op_fault k before decl =
    cond (decl.result == 1) (Some (Fresh k))
    (cond (decl.«com» && not (is_pair decl.args)) (Some (Comm k))
    (cond (is_some (place_of decl.name before)) (Some (Twice k)) None))

-- the fault of the first operator that can't be declared, behind operators of these names
abbrev pub first_op_fault : List (List ℕ) → List OpDecl → Option SigFail
first_op_fault before [] = None
first_op_fault before (decl ∷ decls) = option_or (op_fault (length before) before decl) (first_op_fault (before ++ decl.name ∷ []) decls)

-- the operators make a signature where each can be declared; else the first fault is told
abbrev pub Makes : Result Signature SigFail → Subsorts → List (List ℕ) → List OpDecl → Type 0
Makes (Ok sig) sorts names ops = (sig ≡ record { sorts = sorts; sort_names = names; ops = ops }) × (first_op_fault [] ops ≡ None)
Makes (Err NoMemory) sorts names ops = Unit {0}
Makes (Err (Fresh k)) sorts names ops = first_op_fault [] ops ≡ Some (Fresh k)
Makes (Err (Comm k)) sorts names ops = first_op_fault [] ops ≡ Some (Comm k)
Makes (Err (Twice k)) sorts names ops = first_op_fault [] ops ≡ Some (Twice k)

-- the signature with one more operator, where it can be declared
abbrev pub with_op : Signature → OpDecl → Signature
with_op sig decl = record sig { ops = sig.ops ++ decl ∷ [] }

-- the fault of one more operator
abbrev pub next_fault : Signature → OpDecl → Option SigFail
next_fault sig decl = op_fault (length sig.ops) (names_of sig.ops) decl

abbrev pub Declares : Result Signature SigFail → Signature → OpDecl → Type 0
Declares (Ok new) sig decl = (new ≡ with_op sig decl) × (next_fault sig decl ≡ None)
Declares (Err NoMemory) sig decl = Unit {0}
Declares (Err (Fresh k)) sig decl = next_fault sig decl ≡ Some (Fresh k)
Declares (Err (Comm k)) sig decl = next_fault sig decl ≡ Some (Comm k)
Declares (Err (Twice k)) sig decl = next_fault sig decl ≡ Some (Twice k)

-- the signature with one more sort, the last
abbrev pub with_sort : Signature → List ℕ → Signature
with_sort sig name = record sig {
  sorts = record { declared = sig.sorts.declared + 1; pairs = sig.sorts.pairs };
  sort_names = sig.sort_names ++ name ∷ [];
}

-- the signature in which one sort more is below another
abbrev pub with_subsort : Signature → ℕ → ℕ → Signature
with_subsort sig lower upper = record sig {
  sorts = record { declared = sig.sorts.declared; pairs = sig.sorts.pairs ++ (lower, upper) ∷ [] };
}
