use Rattle.std.specs.Prelude.{ℕ, Contains, List}
use Rattle.npa_term.specs.declared.term.Op.{Op}
use Rattle.npa_term.specs.declared.term.Var.{Var as Variable}
use Rattle.npa_term.specs.declared.term.Term.{Term}
use Rattle.npa_term.specs.declared.term.Term.TheVariants.{Var, Name, App, App'}
use Rattle.npa_term.specs.Bound.{applied}

-- The least sort of a term: a variable's own, `Fresh` for a fresh name, an operator's result
-- (Goguen, Meseguer 1992, on the least sort of a term).
abbrev pub least_sort : Term → ℕ
least_sort (Var v) = v.sort
least_sort (Name n) = 1
least_sort (App' op k args) = op.result

-- The term that a substitution has for a variable: the variable itself where it isn't bound.
abbrev pub image : List (Variable × Term) → Variable → Term
image s v = applied s (Var v)

-- A part of a term: the term itself, or a part of an argument.
pub data IsPart (t : Term) : Term → Type 0 where
  whole : IsPart t t
  inside : (op : Op) (us : List Term) (u : Term) → Contains us u → IsPart t u →
      IsPart t (App op us)
