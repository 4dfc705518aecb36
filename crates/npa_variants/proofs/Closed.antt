-- A list of rows that covers what comes of its members is complete.
use Rattle.std.proofs.Common.{◌≡◌, ◌⊎◌, ◌<◌, ℕ, zero, suc, List, inl, inr, subst, sym, arith}
use Rattle.std.specs.Prelude.{Contains}
use Rattle.npa_sorts.specs.Subsorts.{Subsorts}
use Rattle.npa_term.specs.declared.term.Var.{Var as Variable}
use Rattle.npa_term.specs.declared.term.Term.{Term}
use Rattle.npa_term.specs.Composition.{composed}
use Rattle.npa_term.specs.Same.{Same}
use Rattle.npa_rewrite.specs.declared.theory.Theory.{Theory}
use Rattle.npa_variants.specs.Rows.{Row}
use Rattle.npa_variants.specs.Variants.{Covers}
use Rattle.npa_variants.proofs.Covers.{Serves, Settles, size, covers_serves, covers_settles, covers_size}

-- a row that one of these covers
abbrev pub Covered : Subsorts → List Row → Row → Type 0
Covered o rs w = (r : Row) × Contains rs r × Covers o r w

-- Some member covers the first row, each is sound, and what comes of a member is covered by a member.
pub record IsClosed (o : Subsorts) (Sound : Row → Type 0) (Result : Row → Row → Type 0) (start : Row) (rs : List Row) : Type 0 where
  pub begins : Covered o rs start
  pub sound : (r : Row) → Contains rs r → Sound r
  pub steps : (r w : Row) → Contains rs r → Result r w → Covered o rs w

-- What comes of a row serves the same values, and its instance weighs less.
pub record Steps (weigh : Term → ℕ) (th : Theory) (m : ℕ) (Result : Row → Row → Type 0) (values : List Term) (r : Row)
    (s : List (Variable × Term)) : Type 0 where
  pub row : Row
  pub result : Result r row
  pub by_ : List (Variable × Term)
  pub serves : Serves th.sig.sorts m values row by_
  pub smaller : size weigh row by_ < size weigh r s

module _ (weigh : Term → ℕ) (even : (t u : Term) → Same t u → weigh t ≡ weigh u) (th : Theory) (m : ℕ) (Sound : Row → Type 0) (Result : Row → Row → Type 0) (values : List Term)
    (step : (r : Row) (s : List (Variable × Term)) → Sound r → Serves th.sig.sorts m values r s → Settles th m values r s ⊎ Steps weigh th m Result values r s)
    (start : Row) (rs : List Row) (closed : IsClosed th.sig.sorts Sound Result start rs) where
  abbrev SettledIn : Type 0
  SettledIn = (r : Row) × Contains rs r × (s : List (Variable × Term)) × Settles th m values r s

  settled_below : (n : ℕ) (r : Row) (s : List (Variable × Term)) → Contains rs r → Serves th.sig.sorts m values r s → size weigh r s < n → SettledIn
  settled_below zero r s there serves small = absurd (let no : ⊥ = omega (arith, small) in no)
  settled_below (suc n) r s there serves small =
      elim (step r s (closed.sound r there) serves) [
        | inl settles ↦ (r, there, s, settles)
        | inr further ↦
            let over = closed.steps r further.row there further.result in
            let even_size = covers_size weigh even th.sig.sorts over.0 further.row over.2 further.by_ in
            let less = further.smaller in
            settled_below n over.0 (composed over.2.by_ further.by_) over.1
            (covers_serves th.sig.sorts m values over.0 further.row over.2 further.by_ further.serves)
            (omega (arith, even_size, less, small))
      ]

  -- each substitution that serves values at the first row is settled at some member
  pub closed_complete : (s : List (Variable × Term)) → Serves th.sig.sorts m values start s → SettledIn
  closed_complete s serves =
      let over = closed.begins in
      settled_below (suc (size weigh over.0 (composed over.2.by_ s))) over.0 (composed over.2.by_ s) over.1
      (covers_serves th.sig.sorts m values over.0 start over.2 s serves) (omega arith)
