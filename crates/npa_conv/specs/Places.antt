-- The applications in a term by their places in the order of the text.
use Rattle.std.specs.Prelude.{ℕ, zero, suc, List, [], ◌∷◌, get_or, map, Option, None, Some}
use Rattle.std.specs.Borrow.{Bor}
use Rattle.npa_term.specs.declared.term.Term.{Term, Row_of-Term, end_of-Term, more_of-Term, items-the_row-Term}
use Rattle.npa_term.specs.declared.term.Term.TheVariants.{Var, Name, App, App'}
use Rattle.npa_conv.specs.Overlaps.{holes}

-- the terms that are seen through references
abbrev pub seen : List (Bor Term) → List Term
seen ts = map (λ t. t.now) ts

-- the applications in a term, in the order of the text
abbrev pub parts : Term → List Term
parts t = map (λ p. p.0) (holes t)

-- the application at a place, counted from 0, with the term that has the hole there
abbrev pub hole_at : Term → ℕ → Term × Term
hole_at t at = get_or (holes t) at (t, t)

abbrev mutual
  -- A term in which the application at a place is exchanged for another term, with the place counted
  -- from behind the term; no place where the exchange is done.
  pub exchanged : Term → Term → Option ℕ → Term × Option ℕ
  exchanged by (Var v) at = (Var v, at)
  exchanged by (Name n) at = (Name n, at)
  exchanged by (App' op n args) None = (App' op n args, None)
  exchanged by (App' op n args) (Some zero) = (by, None)
  exchanged by (App' op n args) (Some (suc k)) =
      (App op (row_exchanged by args (Some k)).0, (row_exchanged by args (Some k)).1)

  pub row_exchanged : {m : _} → Term → Row_of-Term m → Option ℕ → List Term × Option ℕ
  row_exchanged by end_of-Term at = ([], at)
  row_exchanged by (more_of-Term t rest) at = (
    (exchanged by t at).0 ∷ (row_exchanged by rest (exchanged by t at).1).0,
    (row_exchanged by rest (exchanged by t at).1).1,
  )

-- the same in a list of terms
abbrev pub list_exchanged : Term → List Term → Option ℕ → List Term × Option ℕ
list_exchanged by [] at = ([], at)
list_exchanged by (t ∷ ts) at = (
  (exchanged by t at).0 ∷ (list_exchanged by ts (exchanged by t at).1).0,
  (list_exchanged by ts (exchanged by t at).1).1,
)
