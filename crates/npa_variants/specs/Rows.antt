-- Rows: the values of a list of variables, and then terms. A variant of terms is one (Escobar, Sasse,
-- Meseguer 2012, on variants; Comon-Lundh, Delaune 2005, on the finite variant property).
use Rattle.std.specs.Prelude.{ℕ, Bool, true, false, not, ◌&&◌, nat_eq, List, [], ◌∷◌, ◌++◌, length, map, take, drop, zip, filter, is_some}
use Rattle.std.specs.List.{flat_map, list_any}
use Rattle.npa_sorts.specs.Subsorts.{Subsorts}
use Rattle.npa_term.specs.declared.term.Term.{Term, Row_of-Term, end_of-Term, more_of-Term}
use Rattle.npa_term.specs.declared.term.Term.TheVariants.{Var, Name, App'}
use Rattle.npa_term.specs.Computed.{is_same}
use Rattle.npa_match.specs.Branches.{branches, first_of}

abbrev pub Row : Type 0
Row = List Term

abbrev mutual
  -- A term and the parts of its arguments, in the order of the text.
  pub parts : Term → List Term
  parts (Var v) = Var v ∷ []
  parts (Name n) = Name n ∷ []
  parts (App' op n args) = App' op n args ∷ row_parts args

  pub row_parts : {n : _} → Row_of-Term n → List Term
  row_parts end_of-Term = []
  row_parts (more_of-Term t rest) = parts t ++ row_parts rest

abbrev pub is_application : Term → Bool
is_application (Var v) = false
is_application (Name n) = false
is_application (App' op n args) = true

-- The parts of a term that are applications, in the order of the text.
abbrev pub applications : Term → List Term
applications t = filter is_application (parts t)

-- Whether a term equals one of these modulo commutativity.
abbrev pub is_among : List Term → Term → Bool
is_among ts u = list_any (is_same u) ts

-- The row's own applications, where its first `m` members are values: those in its terms that equal
-- no part of a value, in the order of the text.
abbrev pub own_parts : ℕ → Row → List Term
own_parts m row = filter (λ u. not (is_among (flat_map parts (take m row)) u)) (flat_map applications (drop m row))

-- Whether the first row covers the second: one substitution that respects sorts sends its members to
-- those of the second, place by place, modulo commutativity.
abbrev pub covers_row : Subsorts → Row → Row → Bool
covers_row o a b = nat_eq (length a) (length b) && is_some (first_of (branches o (zip a b)))
