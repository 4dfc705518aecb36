use Rattle.std.specs.Ordering.{nat_cmp, ordering_then}
use Rattle.std.specs.declared.cmp.Ordering.{Ordering}
use Rattle.std.specs.declared.cmp.Ordering.TheVariants.{Less, Equal, Greater}
use Rattle.npa_term.specs.declared.term.Term.{Term, Row_of-Term, end_of-Term, more_of-Term}
use Rattle.npa_term.specs.declared.term.Term.TheVariants.{Var, Name, App'}

abbrev mutual
  -- The order of terms: variables before fresh names before applications; variables by number,
  -- then by sort; names by number; applications by the operator's number, then by the arguments
  -- from the left (a lexicographic order on terms, as in Baader, Nipkow 1998, on term orders).
  pub term_cmp : Term → Term → Ordering
  term_cmp (Var v) (Var w) = ordering_then (nat_cmp v.num w.num) (nat_cmp v.sort w.sort)
  term_cmp (Var v) (Name n) = Less
  term_cmp (Var v) (App' g k us) = Less
  term_cmp (Name m) (Var w) = Greater
  term_cmp (Name m) (Name n) = nat_cmp m n
  term_cmp (Name m) (App' g k us) = Less
  term_cmp (App' f j ts) (Var w) = Greater
  term_cmp (App' f j ts) (Name n) = Greater
  term_cmp (App' f j ts) (App' g k us) = ordering_then (nat_cmp f.num g.num) (row_cmp ts us)

  pub row_cmp : {m n : _} → Row_of-Term m → Row_of-Term n → Ordering
  row_cmp end_of-Term end_of-Term = Equal
  row_cmp end_of-Term (more_of-Term u us) = Less
  row_cmp (more_of-Term t ts) end_of-Term = Greater
  row_cmp (more_of-Term t ts) (more_of-Term u us) = ordering_then (term_cmp t u) (row_cmp ts us)
