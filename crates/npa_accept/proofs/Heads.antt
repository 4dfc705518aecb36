-- Terms whose heads differ don't unify.
use Rattle.std.proofs.Common.{◌≡◌, ℕ, true, false, nat_eq, List, refl, sym, ap, subst, arith}
use Rattle.npa_term.specs.declared.term.Op.{Op}
use Rattle.npa_term.specs.declared.term.Var.{Var as Variable}
use Rattle.npa_term.specs.declared.term.Term.{Term, Var, Name, App, App'}
use Rattle.npa_term.specs.Bound.{applied, applied_row}
use Rattle.npa_term.specs.Computed.{same_op}
use Rattle.npa_term.specs.Same.{Same}
use Rattle.npa_term.proofs.Equality.{op_itself}
use Rattle.npa_term.proofs.SameCases.{app_injective, same_app, same_only_name}
use Rattle.npa_term.proofs.SameLaws.{same_sym}
use Rattle.npa_accept.specs.Fit.{heads_meet}

abbrev name_number : Term → ℕ
name_number (Var v) = 0
name_number (Name n) = n
name_number (App' op k ts) = 0

app_no_name : (op : Op) (ts : List Term) (n : ℕ) → App op ts ≡ Name n → ⊥
app_no_name op ts n e = cc

same_number : (m n : ℕ) → nat_eq m n ≡ false → n ≡ m → ⊥
same_number m n e is = let no : ⊥ = grind arith in no

same_operator : (f g : Op) → same_op f g ≡ false → g ≡ f → ⊥
same_operator f g e is = let yes : same_op f g ≡ true = subst (λ h. same_op f h ≡ true) (sym is) (op_itself f) in cc

apart_apps : (f g : Op) (ts us : List Term) → same_op f g ≡ false → Same (App f ts) (App g us) → ⊥
apart_apps f g ts us e p =
    let at = same_app p f ts refl in
    same_operator f g e (app_injective g f us at.0 at.1).0

pub heads_apart : (t u : Term) → heads_meet t u ≡ false → (s r : List (Variable × Term)) → Same (applied s t) (applied r u) → ⊥
heads_apart (Var v) u e s r p = cc
heads_apart (Name m) (Var w) e s r p = cc
heads_apart (Name m) (Name n) e s r p = same_number m n e (ap name_number (same_only_name p m refl))
heads_apart (Name m) (App' g k us) e s r p = app_no_name g (applied_row r us) m (same_only_name p m refl)
heads_apart (App' f j ts) (Var w) e s r p = cc
heads_apart (App' f j ts) (Name n) e s r p = app_no_name f (applied_row s ts) n (same_only_name (same_sym p) n refl)
heads_apart (App' f j ts) (App' g k us) e s r p = apart_apps f g (applied_row s ts) (applied_row r us) e p
