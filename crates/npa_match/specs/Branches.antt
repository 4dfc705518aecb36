use Rattle.std.specs.Prelude.{Bool, false, not, cond, nat_eq, ◌&&◌, Option, Some, None, List, ◌∷◌, ◌++◌, flat_map, length, ◌≤◌, []}
use Rattle.npa_sorts.specs.Subsorts.{Subsorts, at_or_below}
use Rattle.npa_term.specs.declared.term.Op.{Op}
use Rattle.npa_term.specs.declared.term.Var.{Var as Variable}
use Rattle.npa_term.specs.declared.term.Term.{Term, Row_of-Term, end_of-Term, more_of-Term, items-the_row-Term}
use Rattle.npa_term.specs.declared.term.Term.TheVariants.{Var, Name, App'}
use Rattle.npa_term.specs.Bound.{value_of}
use Rattle.npa_term.specs.Computed.{same_op, turned, is_same}
use Rattle.npa_term.specs.Parts.{least_sort}

-- The order in which matchers are answered: that of a search by branches, each of which carries
-- the variables that it has bound so far.

-- Whether the crossed pairs of arguments are tried after the straight ones: where the operator is
-- commutative and the two arguments of the second member differ.
abbrev pub differ : List Term → Bool
differ [] = false
differ (t ∷ []) = false
differ (t ∷ u ∷ []) = not (is_same t u)
differ (t ∷ u ∷ v ∷ ts) = false

abbrev pub forks : Op → List Term → Bool
forks op us = op.com && differ us

-- What becomes of a branch at a variable: where it is bound, the branch goes on if the term equals
-- its value, and otherwise it binds the variable if the sort allows it.
abbrev pub at_variable : Subsorts → List (Variable × Term) → Variable → Term → Option Term →
    List (List (Variable × Term))
at_variable o s v u (Some t) = cond (is_same t u) (s ∷ []) []
at_variable o s v u None =
    cond (at_or_below o (least_sort u) v.sort) ((s ++ (v, u) ∷ []) ∷ []) []

abbrev mutual
  -- The branches that a branch becomes by matching one term onto another, in order.
  pub after_term : Subsorts → Term → Term → List (Variable × Term) →
      List (List (Variable × Term))
  after_term o (Var v) u s = at_variable o s v u (value_of s v)
  after_term o (Name m) (Var w) s = []
  after_term o (Name m) (Name n) s = cond (nat_eq m n) (s ∷ []) []
  after_term o (Name m) (App' g k us) s = []
  after_term o (App' f j ts) (Var w) s = []
  after_term o (App' f j ts) (Name n) s = []
  after_term o (App' f j ts) (App' g k us) s =
      cond (same_op f g)
      (after_row o ts (items-the_row-Term _ us) s
      ++ cond (forks f (items-the_row-Term _ us))
      (after_row o ts (turned (items-the_row-Term _ us)) s) [])
      []

  pub after_row : {n : _} → Subsorts → Row_of-Term n → List Term → List (Variable × Term) →
      List (List (Variable × Term))
  after_row o end_of-Term [] s = s ∷ []
  after_row o end_of-Term (u ∷ us) s = []
  after_row o (more_of-Term t ts) [] s = []
  after_row o (more_of-Term t ts) (u ∷ us) s = flat_map (after_row o ts us) (after_term o t u s)

-- The branches that a branch becomes by all pairs, taken from the front.
abbrev pub after_pairs : Subsorts → List (Term × Term) → List (Variable × Term) →
    List (List (Variable × Term))
after_pairs o [] s = s ∷ []
after_pairs o (p ∷ ps) s = flat_map (after_pairs o ps) (after_term o p.0 p.1 s)

-- The ends of all branches.
abbrev pub branches : Subsorts → List (Term × Term) → List (List (Variable × Term))
branches o pairs = after_pairs o pairs []

-- The first of a list, where there is one.
abbrev pub first_of : List (List (Variable × Term)) → Option (List (Variable × Term))
first_of [] = None
first_of (s ∷ ss) = Some s

-- A term that matches any other in one way at most, whatever is bound.
abbrev pub MatchesOnce : Term → Type 0
MatchesOnce t =
    (o : Subsorts) (u : Term) (s : List (Variable × Term)) → length (after_term o t u s) ≤ 1
