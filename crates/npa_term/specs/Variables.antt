use Rattle.std.specs.Prelude.{◌≡◌, ℕ, ◌+◌, List, [], ◌∷◌, ◌++◌}
use Rattle.npa_term.specs.declared.term.Var.{Var as Variable}
use Rattle.npa_term.specs.declared.term.Term.{Term, Row_of-Term, end_of-Term, more_of-Term}
use Rattle.npa_term.specs.declared.term.Term.TheVariants.{Var, Name, App, App'}

abbrev mutual
  -- The variables of a term, one for each occurrence, from the left.
  pub variables : Term → List Variable
  variables (Var v) = v ∷ []
  variables (Name n) = []
  variables (App' op n args) = row_variables args

  pub row_variables : {n : _} → Row_of-Term n → List Variable
  row_variables end_of-Term = []
  row_variables (more_of-Term t rest) = variables t ++ row_variables rest

-- A term without variables (Baader, Nipkow 1998, on ground terms).
abbrev pub IsGround : Term → Type 0
IsGround t = variables t ≡ []

-- The variable with `base` added to its number, its sort as it was.
abbrev pub raised_var : ℕ → Variable → Variable
raised_var base v = record { num = v.num + base; sort = v.sort }

abbrev mutual
  -- The term with `base` added to the number of each variable.
  pub renamed : ℕ → Term → Term
  renamed base (Var v) = Var (raised_var base v)
  renamed base (Name n) = Name n
  renamed base (App' op n args) = App op (renamed_row base args)

  pub renamed_row : {n : _} → ℕ → Row_of-Term n → List Term
  renamed_row base end_of-Term = []
  renamed_row base (more_of-Term t rest) = renamed base t ∷ renamed_row base rest
