use Rattle.std.specs.Prelude.{ℕ, ◌+◌, List, [], ◌∷◌}
use Rattle.npa_term.specs.declared.term.Term.{Term, Row_of-Term, end_of-Term, more_of-Term}
use Rattle.npa_term.specs.declared.term.Term.TheVariants.{Var, Name, App'}

abbrev mutual
  -- How many symbols a term has: each occurrence of a variable, a fresh name or an operator is one
  -- (Baader, Nipkow 1998, on the size of a term).
  pub symbol_count : Term → ℕ
  symbol_count (Var v) = 1
  symbol_count (Name n) = 1
  symbol_count (App' op n args) = 1 + row_count args

  pub row_count : {n : _} → Row_of-Term n → ℕ
  row_count end_of-Term = 0
  row_count (more_of-Term t rest) = symbol_count t + row_count rest

-- The symbols of a list of terms together.
abbrev pub all_count : List Term → ℕ
all_count [] = 0
all_count (t ∷ ts) = symbol_count t + all_count ts
