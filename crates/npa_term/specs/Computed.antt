use Rattle.std.specs.Prelude.{Bool, true, false, nat_eq, ◌&&◌, ◌||◌, List, ◌∷◌, []}
use mathlib.Core.Bool.{beq}
use Rattle.npa_term.specs.declared.term.Op.{Op}
use Rattle.npa_term.specs.declared.term.Term.{Term, Row_of-Term, end_of-Term, more_of-Term, items-the_row-Term}
use Rattle.npa_term.specs.declared.term.Term.TheVariants.{Var, Name, App'}
use Rattle.npa_term.specs.Bound.{same_var}

-- Tests that compute what equality of terms and equality modulo commutativity say. That they do is
-- a law.

-- Whether two operators are the same: the same number, result and commutativity.
abbrev pub same_op : Op → Op → Bool
same_op f g = nat_eq f.num g.num && (nat_eq f.result g.result && beq f.com g.com)

-- Two arguments in the other order; any other number of arguments as they are.
abbrev pub turned : List Term → List Term
turned [] = []
turned (t ∷ []) = t ∷ []
turned (t ∷ u ∷ []) = u ∷ t ∷ []
turned (t ∷ u ∷ v ∷ ts) = t ∷ u ∷ v ∷ ts

abbrev mutual
  -- Whether two terms are equal modulo commutativity.
  pub is_same : Term → Term → Bool
  is_same (Var v) (Var w) = same_var v w
  is_same (Var v) (Name n) = false
  is_same (Var v) (App' g k us) = false
  is_same (Name m) (Var w) = false
  is_same (Name m) (Name n) = nat_eq m n
  is_same (Name m) (App' g k us) = false
  is_same (App' f j ts) (Var w) = false
  is_same (App' f j ts) (Name n) = false
  is_same (App' f j ts) (App' g k us) =
      same_op f g && (is_same_row ts (items-the_row-Term _ us)
      || (f.com && is_same_row ts (turned (items-the_row-Term _ us))))

  pub is_same_row : {n : _} → Row_of-Term n → List Term → Bool
  is_same_row end_of-Term [] = true
  is_same_row end_of-Term (u ∷ us) = false
  is_same_row (more_of-Term t ts) [] = false
  is_same_row (more_of-Term t ts) (u ∷ us) = is_same t u && is_same_row ts us

-- Whether lists of terms are as long and equal modulo commutativity place by place.
abbrev pub all_same : List Term → List Term → Bool
all_same [] [] = true
all_same [] (u ∷ us) = false
all_same (t ∷ ts) [] = false
all_same (t ∷ ts) (u ∷ us) = is_same t u && all_same ts us

abbrev mutual
  -- Whether two terms are one and the same.
  pub equal : Term → Term → Bool
  equal (Var v) (Var w) = same_var v w
  equal (Var v) (Name n) = false
  equal (Var v) (App' g k us) = false
  equal (Name m) (Var w) = false
  equal (Name m) (Name n) = nat_eq m n
  equal (Name m) (App' g k us) = false
  equal (App' f j ts) (Var w) = false
  equal (App' f j ts) (Name n) = false
  equal (App' f j ts) (App' g k us) = same_op f g && row_equal ts us

  pub row_equal : {m n : _} → Row_of-Term m → Row_of-Term n → Bool
  row_equal end_of-Term end_of-Term = true
  row_equal end_of-Term (more_of-Term u us) = false
  row_equal (more_of-Term t ts) end_of-Term = false
  row_equal (more_of-Term t ts) (more_of-Term u us) = equal t u && row_equal ts us
