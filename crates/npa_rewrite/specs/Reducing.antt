-- Rewriting at a position of the term itself, modulo commutativity, and what it leads to (Peterson,
-- Stickel 1981; Baader, Nipkow 1998). The term is nowhere put into canonical form.
use Rattle.std.specs.Prelude.{Contains, List, ◌∷◌}
use Rattle.npa_term.specs.declared.term.Op.{Op}
use Rattle.npa_term.specs.declared.term.Var.{Var as Variable}
use Rattle.npa_term.specs.declared.term.Term.{Term}
use Rattle.npa_term.specs.declared.term.Term.TheVariants.{App}
use Rattle.npa_term.specs.Bound.{applied}
use Rattle.npa_term.specs.Same.{Same}
use Rattle.npa_term.specs.Variables.{variables}
use Rattle.npa_sig.specs.declared.protocol.Equation.{Equation}
use Rattle.npa_rewrite.specs.declared.theory.Theory.{Theory}
use Rattle.npa_rewrite.specs.Rewriting.{FitsSorts}

mutual
  -- One step: the term, or an argument of it at any depth, equals an instance of an equation's left
  -- side modulo commutativity, and the instance of the right side stands in its place.
  pub data Reduces (th : Theory) : Term → Term → Type 0 where
    top : (e : Equation) (s : List (Variable × Term)) (t : Term) → Contains th.equations e →
        FitsSorts th.sig.sorts (variables e.left) s → Same t (applied s e.left) →
        Reduces th t (applied s e.right)
    under : (op : Op) (ts us : List Term) → ReducesOne th ts us → Reduces th (App op ts) (App op us)

  -- One step in one of the terms of a list.
  pub data ReducesOne (th : Theory) : List Term → List Term → Type 0 where
    now : (t u : Term) (ts : List Term) → Reduces th t u → ReducesOne th (t ∷ ts) (u ∷ ts)
    later : (t : Term) (ts us : List Term) → ReducesOne th ts us → ReducesOne th (t ∷ ts) (t ∷ us)

-- Any number of steps, modulo commutativity.
pub data Leads (th : Theory) : Term → Term → Type 0 where
  equal : (t u : Term) → Same t u → Leads th t u
  step : (t u : Term) → Reduces th t u → Leads th t u
  chain : (t u v : Term) → Leads th t u → Leads th u v → Leads th t v

-- Two terms that lead to one.
pub record Joins (th : Theory) (t u : Term) : Type 0 where
  pub to : Term
  pub left : Leads th t to
  pub right : Leads th u to
