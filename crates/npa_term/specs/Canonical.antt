use Rattle.std.specs.Prelude.{◌&&◌, cond, List, [], ◌∷◌}
use Rattle.std.specs.Ordering.{is_gt}
use Rattle.npa_term.specs.declared.term.Op.{Op}
use Rattle.npa_term.specs.declared.term.Term.{Term, Row_of-Term, end_of-Term, more_of-Term}
use Rattle.npa_term.specs.declared.term.Term.TheVariants.{Var, Name, App, App'}
use Rattle.npa_term.specs.Order.{term_cmp}

-- The two arguments of a commutative operator in ascending order; other arguments as they are.
abbrev pub ordered : Op → List Term → List Term
ordered op (t ∷ u ∷ []) = cond (op.com && is_gt (term_cmp t u)) (u ∷ t ∷ []) (t ∷ u ∷ [])
ordered op ts = ts

abbrev mutual
  -- The canonical form of a term: each argument canonical, and the two arguments of a commutative
  -- operator in ascending order (Baader, Nipkow 1998, on commutative theories).
  pub canonical : Term → Term
  canonical (Var v) = Var v
  canonical (Name n) = Name n
  canonical (App' op n args) = App op (ordered op (canonical_row args))

  pub canonical_row : {n : _} → Row_of-Term n → List Term
  canonical_row end_of-Term = []
  canonical_row (more_of-Term t rest) = canonical t ∷ canonical_row rest
