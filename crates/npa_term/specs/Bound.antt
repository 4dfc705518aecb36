use Rattle.std.specs.Prelude.{◌≡◌, Bool, nat_eq, ◌&&◌, cond, Option, Some, None, unwrap_or, List, [], ◌∷◌, ⊤}
use Rattle.npa_term.specs.declared.term.Var.{Var as Variable}
use Rattle.npa_term.specs.declared.term.Term.{Term, Row_of-Term, end_of-Term, more_of-Term}
use Rattle.npa_term.specs.declared.term.Term.TheVariants.{Var, Name, App, App'}

-- Whether two variables are the same: the same number and the same sort.
abbrev pub same_var : Variable → Variable → Bool
same_var v w = nat_eq v.num w.num && nat_eq v.sort w.sort

-- The term that a substitution has for a variable, where it has one (Baader, Nipkow 1998, on
-- substitutions as finite maps from variables to terms).
abbrev pub value_of : List (Variable × Term) → Variable → Option Term
value_of [] v = None
value_of (b ∷ s) v = cond (same_var b.0 v) (Some b.1) (value_of s v)

-- No variable has two terms.
abbrev pub BindsOnce : List (Variable × Term) → Type 0
BindsOnce [] = ⊤
BindsOnce (b ∷ s) = (value_of s b.0 ≡ None) × BindsOnce s

abbrev mutual
  -- A term with the term of each bound variable in its place; a variable that isn't bound stays
  -- (Baader, Nipkow 1998, on the instance of a term by a substitution).
  pub applied : List (Variable × Term) → Term → Term
  applied s (Var v) = unwrap_or (value_of s v) (Var v)
  applied s (Name n) = Name n
  applied s (App' op n args) = App op (applied_row s args)

  pub applied_row : {n : _} → List (Variable × Term) → Row_of-Term n → List Term
  applied_row s end_of-Term = []
  applied_row s (more_of-Term t rest) = applied s t ∷ applied_row s rest
