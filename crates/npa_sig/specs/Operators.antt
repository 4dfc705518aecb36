-- What holds of the operators of a signature.
use Rattle.std.specs.Prelude.{◌≡◌, ◌≢◌, ◌≤◌, ℕ, true, List, Some, length, slice_get}
use Rattle.npa_sorts.specs.Subsorts.{Subsorts, IsSort}
use Rattle.npa_sig.specs.declared.signature.OpDecl.{OpDecl}
use Rattle.npa_sig.specs.Signature.{Signature, is_pair, names_of}

-- each of the numbers stands for a sort
abbrev pub StandForSorts : Subsorts → List ℕ → Type 0
StandForSorts o sorts = (k : ℕ) (s : ℕ) → slice_get sorts k ≡ Some s → IsSort o s

-- Each sort that a declaration names is a sort.
abbrev pub HasSorts : Subsorts → OpDecl → Type 0
HasSorts o decl = IsSort o decl.result × StandForSorts o decl.args

abbrev pub HaveSorts : Subsorts → List OpDecl → Type 0
HaveSorts o ops = (k : ℕ) (decl : OpDecl) → slice_get ops k ≡ Some decl → HasSorts o decl

-- Each commutative operator takes two arguments of one sort.
abbrev pub PairsCommute : Signature → Type 0
PairsCommute sig =
    (k : ℕ) (decl : OpDecl) → slice_get sig.ops k ≡ Some decl → decl.com ≡ true →
    is_pair decl.args ≡ true

-- No operator has the result `Fresh`.
abbrev pub NoneIsFresh : Signature → Type 0
NoneIsFresh sig = (k : ℕ) (decl : OpDecl) → slice_get sig.ops k ≡ Some decl → decl.result ≢ 1

-- The declarations name sorts, a commutative operator has two arguments of one sort, and none has the
-- result `Fresh`.
pub record IsWellFormedSignature (sig : Signature) : Type 0 where
  pub sorts : HaveSorts sig.sorts sig.ops
  pub pairs : PairsCommute sig
  pub not_fresh : NoneIsFresh sig

-- a table of the operators' names, each of which has a number, a name for each declared sort, and
-- operators that are well formed
pub record IsIndexed (names : List (List ℕ)) (sig : Signature) : Type 0 where
  pub same : names ≡ names_of sig.ops
  pub few : length sig.ops ≤ 65535
  pub named : length sig.sort_names ≡ sig.sorts.declared
  pub formed : IsWellFormedSignature sig
