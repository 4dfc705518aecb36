-- The first part of a term because of which it isn't accepted in an aim (Escobar, Meadows, Meseguer
-- 2009, on attack patterns in normal form).
use Rattle.std.specs.Prelude.{◌≡◌, ◌≢◌, ℕ, ◌<◌, Some, None, Option, List, Contains, slice_get}
use Rattle.npa_term.specs.declared.term.Var.{Var as Variable}
use Rattle.npa_term.specs.declared.term.Term.{Term}
use Rattle.npa_term.specs.declared.term.Term.TheVariants.{Var}
use Rattle.npa_sig.specs.declared.protocol.Equation.{Equation}
use Rattle.npa_rewrite.specs.declared.theory.Theory.{Theory}
use Rattle.npa_rewrite.specs.Accepted.{Unify}
use Rattle.npa_accept.specs.declared.accepted.Unaccepted.{Unaccepted}

-- The term unifies with no left side.
abbrev pub IsApart : Theory → Term → Type 0
IsApart th u = (e : Equation) → Contains th.equations e → Unify th.sig u e.left → ⊥

-- The equation of this number is the first whose left side unifies with the term.
pub record IsFirstEquation (th : Theory) (u : Term) (i : ℕ) : Type 0 where
  pub equation : Equation
  pub there : slice_get th.equations i ≡ Some equation
  pub unify : Unify th.sig u equation.left
  pub least : (j : ℕ) (e : Equation) → j < i → slice_get th.equations j ≡ Some e →
      Unify th.sig u e.left → ⊥

-- no equation, or the first one
abbrev pub IsEquationOf : Theory → Term → Option ℕ → Type 0
IsEquationOf th u None = IsApart th u
IsEquationOf th u (Some i) = IsFirstEquation th u i

-- A term of a list that is no variable and unifies with a left side, where none before it does, and
-- the first such equation.
pub record IsFirstOf (th : Theory) (us : List Term) (found : Unaccepted) : Type 0 where
  pub place : ℕ
  pub there : slice_get us place ≡ Some found.term
  pub other : (v : Variable) → found.term ≢ Var v
  pub equation : IsFirstEquation th found.term found.equation
  pub before : (k : ℕ) (u : Term) → k < place → slice_get us k ≡ Some u →
      ((v : Variable) → u ≢ Var v) → IsApart th u

-- There is no such term, or this is the first.
abbrev pub IsFirst : Theory → List Term → Option Unaccepted → Type 0
IsFirst th us None = (u : Term) → Contains us u → ((v : Variable) → u ≢ Var v) → IsApart th u
IsFirst th us (Some found) = IsFirstOf th us found

-- the same of the term itself alone
abbrev pub IsAtRoot : Theory → Term → Option Unaccepted → Type 0
IsAtRoot th t None = IsApart th t
IsAtRoot th t (Some found) = (found.term ≡ t) × IsFirstEquation th t found.equation
