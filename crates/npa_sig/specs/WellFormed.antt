-- Well-formed equations, strands and protocols: each number in them stands for something that is
-- there, and each term is well sorted (order-sorted signatures: Goguen, Meseguer 1992).
use Rattle.std.specs.Prelude.{◌≡◌, ◌≢◌, ℕ, ◌<◌, ◌^◌, true, List, Some, length, slice_get, Contains}
use Rattle.npa_term.specs.declared.term.Var.{Var as Variable}
use Rattle.npa_term.specs.declared.term.Term.{Term}
use Rattle.npa_term.specs.declared.term.Term.TheVariants.{Name}
use Rattle.npa_term.specs.Variables.{variables}
use Rattle.npa_sig.specs.declared.protocol.Equation.{Equation}
use Rattle.npa_sig.specs.declared.protocol.Event.{Event}
use Rattle.npa_sig.specs.declared.protocol.Strand.{Strand}
use Rattle.npa_sig.specs.declared.protocol.Protocol.{Protocol}
use Rattle.npa_sig.specs.Operators.{IsWellFormedSignature}
use Rattle.npa_sig.specs.Parameters.{param_sorts}
use Rattle.npa_sig.specs.Signature.{Signature}
use Rattle.npa_sig.specs.Sorting.{is_sort, well_sorted}
use Rattle.npa_term.specs.Parts.{IsPart, least_sort}

-- Each variable of the term has the number of a place in a list of sorts, and the sort there.
abbrev pub IsOwn : List ℕ → Term → Type 0
IsOwn sorts t = (v : Variable) → Contains (variables t) v → slice_get sorts v.num ≡ Some v.sort

-- no fresh name stands in the term
abbrev pub IsNameless : Term → Type 0
IsNameless t = (n : ℕ) → IsPart (Name n) t → ⊥

-- a well-sorted term over variables of these sorts
pub record IsTermOver (sig : Signature) (sorts : List ℕ) (t : Term) : Type 0 where
  pub sorted : well_sorted sig t ≡ true
  pub own : IsOwn sorts t

-- a message or a fact: such a term that isn't of the sort of fresh values
pub record IsMessageOver (sig : Signature) (sorts : List ℕ) (t : Term) : Type 0 where
  pub term : IsTermOver sig sorts t
  pub not_fresh : least_sort t ≢ 1

-- the numbers stand for sorts
abbrev pub AreSorts : Signature → List ℕ → Type 0
AreSorts sig sorts = (s : ℕ) → Contains sorts s → is_sort sig s ≡ true

-- The sides of an equation are messages over variables of the same sorts.
pub record IsWellFormedEquation (sig : Signature) (equation : Equation) : Type 0 where
  pub sorts : List ℕ
  pub are_sorts : AreSorts sig sorts
  pub left : IsMessageOver sig sorts equation.left
  pub right : IsMessageOver sig sorts equation.right

-- each equation is well formed
abbrev pub AreWellFormedEquations : Signature → List Equation → Type 0
AreWellFormedEquations sig equations = (k : ℕ) (equation : Equation) → slice_get equations k ≡ Some equation → IsWellFormedEquation sig equation

-- A strand's messages are over its parameters, and its events and parameters can be counted.
pub record IsWellFormedStrand (sig : Signature) (strand : Strand) : Type 0 where
  pub sorts : AreSorts sig strand.vars
  pub messages : (event : Event) → Contains strand.events event → IsMessageOver sig (param_sorts strand) event.msg
  pub countable : length strand.events < 65535
  pub params : length (param_sorts strand) < 2 ^ 16

-- each strand is well formed
abbrev pub AreWellFormedStrands : Signature → List Strand → Type 0
AreWellFormedStrands sig strands = (k : ℕ) (strand : Strand) → slice_get strands k ≡ Some strand → IsWellFormedStrand sig strand

-- A protocol has such a signature, and equations and strands over it.
pub record IsWellFormedProtocol (protocol : Protocol) : Type 0 where
  pub signature : IsWellFormedSignature protocol.sig
  pub equations : AreWellFormedEquations protocol.sig protocol.equations
  pub strands : AreWellFormedStrands protocol.sig protocol.strands

-- ## Equations and strands that can be used as patterns

-- No fresh name stands in the term, and its variables have numbers below 2^30.
pub record IsPlainTerm (t : Term) : Type 0 where
  pub nameless : IsNameless t
  pub small : (v : Variable) → Contains (variables t) v → v.num < 2 ^ 30

-- So it is with the sides of an equation,
pub record IsPlainEquation (equation : Equation) : Type 0 where
  pub left : IsPlainTerm equation.left
  pub right : IsPlainTerm equation.right

-- with the messages of a strand,
abbrev pub IsPlainStrand : Strand → Type 0
IsPlainStrand strand = (event : Event) → Contains strand.events event → IsPlainTerm event.msg

-- and with the equations and the strands of a protocol, of which, as of its operators, there are fewer
-- than a number of 16 bits can name.
pub record IsPlainProtocol (protocol : Protocol) : Type 0 where
  pub equations : (k : ℕ) (equation : Equation) → slice_get protocol.equations k ≡ Some equation → IsPlainEquation equation
  pub strands : (k : ℕ) (strand : Strand) → slice_get protocol.strands k ≡ Some strand → IsPlainStrand strand
  pub few_equations : length protocol.equations < 65535
  pub few_strands : length protocol.strands < 65535
  pub few_ops : length protocol.sig.ops < 65535
