-- Terms under the values of parameters.
use Rattle.std.specs.Prelude.{List, [], ◌∷◌, slice_get, unwrap_or}
use Rattle.npa_term.specs.declared.term.Term.{Term, Row_of-Term, end_of-Term, more_of-Term}
use Rattle.npa_term.specs.declared.term.Term.TheVariants.{Var, Name, App, App'}

abbrev mutual
  -- A term with the value at place k for the variable number k, as the parameters of a strand and
  -- the variables of an aim are numbered.
  pub under : List Term → Term → Term
  under values (Var v) = unwrap_or (slice_get values v.num) (Var v)
  under values (Name n) = Name n
  under values (App' op n args) = App op (under_row values args)

  pub under_row : {n : _} → List Term → Row_of-Term n → List Term
  under_row values end_of-Term = []
  under_row values (more_of-Term t rest) = under values t ∷ under_row values rest
