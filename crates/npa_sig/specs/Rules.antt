-- The rules on names and the limits of a module, as far as a protocol shows them. They are conditions
-- of calls and no part of what is well formed, and are said strand by strand.
use Rattle.std.specs.Prelude.{◌≡◌, ◌≢◌, ◌≤◌, ℕ, List, ◌∷◌, None, Some, Contains, codes, length, map, slice_get}
use Rattle.npa_text.specs.declared.token.Kind.TheVariants.{Word}
use Rattle.npa_text.specs.Lexemes.{Spells}
use Rattle.npa_text.specs.Terminals.{reserved}
use Rattle.npa_term.specs.Symbols.{symbol_count, all_count}
use Rattle.npa_sig.specs.declared.protocol.Equation.{Equation}
use Rattle.npa_sig.specs.declared.protocol.Strand.{Strand}
use Rattle.npa_sig.specs.declared.protocol.Protocol.{Protocol}
use Rattle.npa_sig.specs.declared.signature.OpDecl.{OpDecl}
use Rattle.npa_sig.specs.Parameters.{param_sorts}
use Rattle.npa_sig.specs.Signature.{Signature, names_of, number_of}

-- ## Names

-- A name is a word, a letter and then letters, digits and `_`, that isn't reserved.
pub record IsName (bytes : List ℕ) : Type 0 where
  pub word : Spells Word bytes
  pub unreserved : (row : List ℕ × ℕ) → Contains reserved row → row.0 ≢ bytes

abbrev pub AreNames : List (List ℕ) → Type 0
AreNames names = (k : ℕ) (name : List ℕ) → slice_get names k ≡ Some name → IsName name

-- no two of the names are the same
abbrev pub AreApart : List (List ℕ) → Type 0
AreApart names = (j k : ℕ) (name : List ℕ) → slice_get names j ≡ Some name → slice_get names k ≡ Some name → j ≡ k

-- Each declared sort has a name, which neither another nor a built-in one has, and no two operators
-- have one name.
pub record IsNamedSignature (sig : Signature) : Type 0 where
  pub each_sort : length sig.sort_names ≡ sig.sorts.declared
  pub sorts : AreNames sig.sort_names
  pub sorts_apart : AreApart (codes "Msg" ∷ codes "Fresh" ∷ sig.sort_names)
  pub ops : AreNames (names_of sig.ops)
  pub ops_apart : AreApart (names_of sig.ops)

-- Each parameter of a strand has a name, which neither another one nor an operator has.
pub record IsNamedStrand (sig : Signature) (strand : Strand) : Type 0 where
  pub name : IsName strand.name
  pub each : length strand.names ≡ length (param_sorts strand)
  pub params : AreNames strand.names
  pub params_apart : AreApart strand.names
  pub no_operator : (k : ℕ) (name : List ℕ) → slice_get strand.names k ≡ Some name → number_of sig name ≡ None

-- the names of strands, in order
abbrev pub strand_names : List Strand → List (List ℕ)
strand_names strands = map (λ strand. strand.name) strands

-- No two strands have one name.
pub record IsNamedProtocol (protocol : Protocol) : Type 0 where
  pub signature : IsNamedSignature protocol.sig
  pub strands : (k : ℕ) (strand : Strand) → slice_get protocol.strands k ≡ Some strand → IsNamedStrand protocol.sig strand
  pub strands_apart : AreApart (strand_names protocol.strands)

-- ## Limits of numbers

-- An operator has at most 16 arguments.
abbrev pub IsWithinOperator : OpDecl → Type 0
IsWithinOperator decl = length decl.args ≤ 16

-- A strand has 1 to 32 events, and at most 64 parameters.
pub record IsWithinStrand (strand : Strand) : Type 0 where
  pub some : 1 ≤ length strand.events
  pub events : length strand.events ≤ 32
  pub params : length (param_sorts strand) ≤ 64

-- There are at most 256 declared sorts, 4,096 operators, 256 equations and 1,024 strands.
pub record IsWithinProtocol (protocol : Protocol) : Type 0 where
  pub sorts : protocol.sig.sorts.declared ≤ 256
  pub ops : length protocol.sig.ops ≤ 4096
  pub args : (k : ℕ) (decl : OpDecl) → slice_get protocol.sig.ops k ≡ Some decl → IsWithinOperator decl
  pub equations : length protocol.equations ≤ 256
  pub strands : length protocol.strands ≤ 1024
  pub each_strand : (k : ℕ) (strand : Strand) → slice_get protocol.strands k ≡ Some strand → IsWithinStrand strand

-- ## Limits of symbols

-- A side of an equation has at most 1,024 symbols.
pub record IsSmallEquation (equation : Equation) : Type 0 where
  pub left : symbol_count equation.left ≤ 1024
  pub right : symbol_count equation.right ≤ 1024

-- The messages of a strand together have at most 1,024 symbols.
abbrev pub IsSmallStrand : Strand → Type 0
IsSmallStrand strand = all_count (map (λ event. event.msg) strand.events) ≤ 1024

pub record IsSmallProtocol (protocol : Protocol) : Type 0 where
  pub equations : (k : ℕ) (equation : Equation) → slice_get protocol.equations k ≡ Some equation → IsSmallEquation equation
  pub strands : (k : ℕ) (strand : Strand) → slice_get protocol.strands k ≡ Some strand → IsSmallStrand strand
