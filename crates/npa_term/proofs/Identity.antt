-- The computed test of whether two terms are one and the same is exact.
use Rattle.std.proofs.Common.{◌≡◌, true, ◌∷◌, refl, ap, sym, ◌∙◌}
use Rattle.std.proofs.lemmas.Bool.{and_parts, and_from, eqb-true, eq-eqb}
use Rattle.npa_term.specs.declared.term.Term.{Term, Var, Name, App, App', Row_of-Term, end_of-Term, more_of-Term, items-the_row-Term}
use Rattle.npa_term.specs.Computed.{equal, row_equal, same_op}
use Rattle.npa_term.proofs.Equality.{op_equal, op_itself, var_equal, var_itself}
use Rattle.npa_term.proofs.Induction.{app_items}

mutual
  pub equal_are : (t u : Term) → equal t u ≡ true → t ≡ u
  equal_are (Var v) (Var w) e =
      ap Var (var_equal v w e)
  equal_are (Var v) (Name n) e = cc
  equal_are (Var v) (App' g k us) e = cc
  equal_are (Name m) (Var w) e = cc
  equal_are (Name m) (Name n) e = ap Name (eqb-true m n e)
  equal_are (Name m) (App' g k us) e = cc
  equal_are (App' f j ts) (Var w) e = cc
  equal_are (App' f j ts) (Name n) e = cc
  equal_are (App' f j ts) (App' g k us) e =
      let both = and_parts (same_op f g) (row_equal ts us) e in
      app_items f j ts ∙ (λ i. App (op_equal f g both.0 i) (rows_are ts us both.1 i)) ∙ sym (app_items g k us)

  rows_are : {m n : _} (j : Row_of-Term m) (k : Row_of-Term n) → row_equal j k ≡ true → items-the_row-Term m j ≡ items-the_row-Term n k
  rows_are end_of-Term end_of-Term e = refl
  rows_are end_of-Term (more_of-Term u us) e = cc
  rows_are (more_of-Term t ts) end_of-Term e = cc
  rows_are (more_of-Term t ts) (more_of-Term u us) e =
      let both = and_parts (equal t u) (row_equal ts us) e in
      λ i. equal_are t u both.0 i ∷ rows_are ts us both.1 i

mutual
  pub equal_itself : (t : Term) → equal t t ≡ true
  equal_itself (Var v) = var_itself v
  equal_itself (Name n) = eq-eqb n n refl
  equal_itself (App' f j ts) = and_from (same_op f f) (row_equal ts ts) (op_itself f) (row_itself ts)

  row_itself : {n : _} (k : Row_of-Term n) → row_equal k k ≡ true
  row_itself end_of-Term = refl
  row_itself (more_of-Term t ts) = and_from (equal t t) (row_equal ts ts) (equal_itself t) (row_itself ts)
