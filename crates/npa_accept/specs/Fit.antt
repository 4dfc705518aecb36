use Rattle.std.specs.Prelude.{◌≡◌, ℕ, ◌<◌, Bool, true, false, nat_eq, Contains}
use Rattle.npa_term.specs.declared.term.Var.{Var as Variable}
use Rattle.npa_term.specs.declared.term.Term.{Term}
use Rattle.npa_term.specs.declared.term.Term.TheVariants.{Var, Name, App'}
use Rattle.npa_term.specs.Computed.{same_op}
use Rattle.npa_term.specs.Variables.{variables}
use Rattle.npa_sig.specs.Signature.{Signature}
use Rattle.npa_sig.specs.Sorting.{well_sorted}

-- A term whose variables can be kept apart from those of another: it is well sorted (Goguen, Meseguer
-- 1992), its variables are numbered below `next`, and no number stands with two sorts.
pub record IsFitTerm (sig : Signature) (next : ℕ) (t : Term) : Type 0 where
  pub sorted : well_sorted sig t ≡ true
  pub low : (v : Variable) → Contains (variables t) v → v.num < next
  pub one : (v w : Variable) → Contains (variables t) v → Contains (variables t) w →
      v.num ≡ w.num → v ≡ w

-- Whether instances of two terms may have one head: a variable has any, and otherwise it is the fresh
-- name or the operator.
abbrev pub heads_meet : Term → Term → Bool
heads_meet (Var v) u = true
heads_meet (Name m) (Var w) = true
heads_meet (Name m) (Name n) = nat_eq m n
heads_meet (Name m) (App' g k us) = false
heads_meet (App' f j ts) (Var w) = true
heads_meet (App' f j ts) (Name n) = false
heads_meet (App' f j ts) (App' g k us) = same_op f g
