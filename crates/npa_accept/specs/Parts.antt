use Rattle.std.specs.Prelude.{List, [], ◌∷◌, ◌++◌}
use Rattle.npa_term.specs.declared.term.Term.{Term, Row_of-Term, end_of-Term, more_of-Term}
use Rattle.npa_term.specs.declared.term.Term.TheVariants.{Var, Name, App'}

abbrev mutual
  -- The parts of a term, one for each place (Baader, Nipkow 1998, on positions), in the order of the
  -- text: a term before its arguments, and these from the left.
  pub parts : Term → List Term
  parts (Var v) = Var v ∷ []
  parts (Name n) = Name n ∷ []
  parts (App' op n args) = App' op n args ∷ row_parts args

  pub row_parts : {n : _} → Row_of-Term n → List Term
  row_parts end_of-Term = []
  row_parts (more_of-Term t rest) = parts t ++ row_parts rest
