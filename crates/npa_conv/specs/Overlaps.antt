-- The places at which the left sides of two equations overlap (Knuth, Bendix 1970; modulo
-- commutativity: Peterson, Stickel 1981).
use Rattle.std.specs.Prelude.{◌≡◌, ◌+◌, ◌-◌, ◌^◌, ℕ, max, Contains, List, [], ◌∷◌, ◌++◌, map}
use Rattle.npa_term.specs.declared.term.Var.{Var as Variable}
use Rattle.npa_term.specs.declared.term.Term.{Term, Row_of-Term, end_of-Term, more_of-Term, items-the_row-Term}
use Rattle.npa_term.specs.declared.term.Term.TheVariants.{Var, Name, App, App'}
use Rattle.npa_term.specs.Variables.{variables, renamed}
use Rattle.npa_sig.specs.declared.protocol.Equation.{Equation}
use Rattle.npa_rewrite.specs.declared.theory.Theory.{Theory}

-- the variable that marks a place in a term: its number is past all that unification makes
abbrev pub hole : Variable
hole = record { num = 2 ^ 32 - 1; sort = 0 }

-- Each application in a term, in the order of the text, with the term that has the hole in its place.
abbrev mutual
  pub holes : Term → List (Term × Term)
  holes (Var v) = []
  holes (Name n) = []
  holes (App' op n args) =
      (App op (items-the_row-Term _ args), Var hole) ∷ map (λ p. (p.0, App op p.1)) (row_holes args)

  pub row_holes : {n : _} → Row_of-Term n → List (Term × List Term)
  row_holes end_of-Term = []
  row_holes (more_of-Term t rest) =
      map (λ p. (p.0, p.1 ∷ items-the_row-Term _ rest)) (holes t)
      ++ map (λ p. (p.0, t ∷ p.1)) (row_holes rest)

-- the same of a list of terms
abbrev pub list_holes : List Term → List (Term × List Term)
list_holes [] = []
list_holes (t ∷ ts) = map (λ p. (p.0, p.1 ∷ ts)) (holes t) ++ map (λ p. (p.0, t ∷ p.1)) (list_holes ts)

-- the first number past those of these variables
abbrev pub past : List Variable → ℕ
past [] = 0
past (v ∷ vs) = max (v.num + 1) (past vs)

-- The variables of the second equation are numbered behind those of the first, and new ones behind both.
abbrev pub base_of : Equation → ℕ
base_of i = past (variables i.left)

abbrev pub next_of : Equation → Equation → ℕ
next_of i j = past (variables j.left) + base_of i

-- what has to be unified: a part of the first left side with the second left side
abbrev pub overlap : Equation → Term → Equation → List (Term × Term)
overlap i part j = (part, renamed (base_of i) j.left) ∷ []

-- the hole stands in no left side
abbrev pub AreHoleless : Theory → Type 0
AreHoleless th = (e : Equation) → Contains th.equations e → Contains (variables e.left) hole → ⊥

-- no number stands with two sorts among these variables
abbrev pub HasOneSort : List Variable → Type 0
HasOneSort vs = (v w : Variable) → Contains vs v → Contains vs w → v.num ≡ w.num → v ≡ w
