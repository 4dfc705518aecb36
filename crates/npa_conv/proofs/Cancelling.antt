-- Equations without a fault of their own cancel.
use Rattle.std.proofs.Common.{◌≡◌, ◌↔◌, ◌⊎◌, ℕ, ◌+◌, Bool, true, false, ◌&&◌, cond, Option, Some, None, List, [], ◌∷◌, Result, Ok, Err, OnOk, IsTrue, refl, sym, ◌∙◌, ap, subst, inl, inr}
use Rattle.std.specs.Prelude.{All, Contains}
use Rattle.std.specs.Option.{option_or}
use Rattle.npa_sorts.specs.Subsorts.{Subsorts, IsAtOrBelow, at_or_below}
use Rattle.npa_term.specs.declared.term.Op.{Op}
use Rattle.npa_term.specs.declared.term.Var.{Var as Variable}
use Rattle.npa_term.specs.declared.term.Term.{Term, Var, Name, App}
use Rattle.npa_term.specs.Parts.{least_sort}
use Rattle.npa_term.specs.Variables.{variables}
use Rattle.npa_term.proofs.Induction.{term_cases}
use Rattle.npa_sig.specs.declared.protocol.Equation.{Equation}
use Rattle.npa_rewrite.specs.declared.theory.Theory.{Theory}
use Rattle.npa_rewrite.specs.Rewriting.{AllCancel, IsCancelling}
use Rattle.npa_unify.specs.Branches.{has_var}
use Rattle.npa_unify.proofs.Members.{all_from, member_cases, nowhere}
use Rattle.npa_unify.proofs.PairVariables.{has_var_is}
use Rattle.npa_conv.specs.declared.error.ConvFail.{ConvFail}
use Rattle.npa_conv.specs.declared.error.ConvFail.TheVariants.{Shape, SortUp}
use Rattle.npa_conv.specs.Verdict.{are_shaped, first_at, first_fault, is_app, shape_fault}

or_none : {A : Type 0} (f g : Option A) → option_or f g ≡ None → (f ≡ None) × (g ≡ None)
or_none None g e = (refl, e)
or_none (Some x) g e = cc

-- where no member has a fault, none of them has
pub none_at : {A : Type 0} (fault : ℕ → A → Option ConvFail) (k : ℕ) (xs : List A) → first_at fault k xs ≡ None → (x : A) → Contains xs x → (n : ℕ) × (fault n x ≡ None)
none_at fault k [] e x c = absurd (nowhere x c)
none_at fault k (y ∷ ys) e x c =
    let both = or_none (fault k y) (first_at fault (k + 1) ys) e in
    elim (member_cases y x ys c) [ inl is ↦ (k, subst (λ z. fault k z ≡ None) is both.0) | inr d ↦ none_at fault (k + 1) ys both.1 x d ]

pub none_of : {A : Type 0} (fault : A → Option ConvFail) (xs : List A) → first_fault fault xs ≡ None → (x : A) → Contains xs x → fault x ≡ None
none_of fault [] e x c = absurd (nowhere x c)
none_of fault (y ∷ ys) e x c =
    let both = or_none (fault y) (first_fault fault ys) e in
    elim (member_cases y x ys c) [ inl is ↦ subst (λ z. fault z ≡ None) is both.0 | inr d ↦ none_of fault ys both.1 x d ]

pub both_none : {A : Type 0} (f g : Option A) → option_or f g ≡ None → (f ≡ None) × (g ≡ None)
both_none f g e = or_none f g e

and_both : (a b : Bool) → (a && b) ≡ true → (a ≡ true) × (b ≡ true)
and_both true b e = (refl, e)
and_both false b e = cc

tests_hold : (a b : Bool) (x y : ConvFail) → cond a (cond b None (Some x)) (Some y) ≡ None → (a ≡ true) × (b ≡ true)
tests_hold true true x y e = (refl, refl)
tests_hold true false x y e = cc
tests_hold false b x y e = cc

-- a shaped equation has a variable as its right side, which occurs in the left one
record IsShaped (t u : Term) : Type 0 where
  var : Variable
  right : u ≡ Var var
  app : is_app t ≡ true
  occurs : Contains (variables t) var

shaped : (t u : Term) → are_shaped t u ≡ true → IsShaped t u
shaped t =
    term_cases (λ u. are_shaped t u ≡ true → IsShaped t u)
    (λ v e. let both = and_both (is_app t) (has_var (variables t) v) e in
    record { var = v; right = refl; app = both.0; occurs = has_var_is (variables t) v both.1 })
    (λ n e. cc) (λ op ts e. cc)

module _ (o : Subsorts) (decides : (s t : ℕ) → IsTrue (at_or_below o s t) ↔ IsAtOrBelow o s t) where
  cancels : (n : ℕ) (e : Equation) → shape_fault o n e ≡ None → IsCancelling o e
  cancels n e none =
      let tests = tests_hold (are_shaped e.left e.right) (at_or_below o (least_sort e.right) (least_sort e.left)) (SortUp n) (Shape n) none in
      let s = shaped e.left e.right tests.0 in
      record {
        left = λ v is. (let both : false ≡ true = sym (ap is_app is) ∙ s.app in cc);
        var = s.var;
        right = s.right;
        occurs = s.occurs;
        sort = subst (λ u. IsAtOrBelow o (least_sort u) (least_sort e.left)) s.right ((decides (least_sort e.right) (least_sort e.left)).0 tests.1);
      }

  pub all_cancel : (es : List Equation) → first_at (shape_fault o) 0 es ≡ None → All (IsCancelling o) es
  all_cancel es none = all_from (IsCancelling o) es (λ e c. let at = none_at (shape_fault o) 0 es none e c in cancels at.0 e at.1)

pub on_ok : {A E : Type 0} (P : Type 0) (r : Result A E) → P → OnOk r P
on_ok P (Ok x) p = p
on_ok P (Err e) p = tt
