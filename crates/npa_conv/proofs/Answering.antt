-- What an answer that tells the verdict says.
use Rattle.std.proofs.Common.{◌≡◌, ◌↔◌, ◌⊎◌, ℕ, Option, None, Some, Result, Ok, Err, OnOk, IsTrue, List, refl, sym, ◌∙◌, ap, subst, inl, inr}
use Rattle.std.specs.Prelude.{◌≢◌, IsErrOf}
use Rattle.npa_sorts.specs.Subsorts.{AreSorts, IsAtOrBelow, at_or_below}
use Rattle.npa_sorts.proofs.LowerLaws.{IsAcyclic}
use Rattle.npa_term.specs.declared.term.Term.{Term}
use Rattle.npa_sig.specs.Operators.{PairsCommute}
use Rattle.npa_rewrite.specs.declared.theory.Theory.{Theory}
use Rattle.npa_rewrite.specs.Rewriting.{AllCancel, IsConvergent, Steps}
use Rattle.npa_conv.specs.declared.error.ConvFail.{ConvFail}
use Rattle.npa_conv.specs.declared.error.ConvFail.TheVariants.{NoMemory, Pair, Shape, SortUp, Symbols, Unifiers}
use Rattle.npa_conv.specs.Theories.{IsPlainTheory}
use Rattle.npa_conv.specs.Verdict.{Tells, conv_of, first_at, pairs_fault, shape_fault}
use Rattle.npa_conv.proofs.Cancelling.{all_cancel, both_none}
use Rattle.npa_conv.proofs.Concluding.{Splits, none_convergent, pair_splits, shape_first}

-- an answer tells the fault that it is
pub told_none : (r : Result (Unit {0}) ConvFail) (f : Option ConvFail) → Tells r f → OnOk r (f ≡ None)
told_none (Ok u) f t = t
told_none (Err e) f t = tt

told_fault : (e : ConvFail) (f : Option ConvFail) → Tells (Err e) f → e ≢ NoMemory → f ≡ Some e
told_fault (Shape at) f t other = t
told_fault (SortUp at) f t other = t
told_fault (Pair from left right) f t other = t
told_fault (Unifiers m n) f t other = t
told_fault (Symbols count) f t other = t
told_fault NoMemory f t other = absurd (other refl)

pub told_some : (r : Result (Unit {0}) ConvFail) (f : Option ConvFail) → Tells r f → (e : ConvFail) → IsErrOf r e → e ≢ NoMemory → f ≡ Some e
told_some r f t e is other = told_fault e f (subst (λ q. Tells q f) is t) other

-- what is known of the orders of sorts and of the operators of a signature
module _ (th : Theory) (plain : IsPlainTheory th) (decides : (s t : ℕ) → IsTrue (at_or_below th.sig.sorts s t) ↔ IsAtOrBelow th.sig.sorts s t) where
  cancel_none : conv_of th ≡ None → AllCancel th
  cancel_none e = all_cancel th.sig.sorts decides th.equations (both_none (first_at (shape_fault th.sig.sorts) 0 th.equations) (first_at (pairs_fault th) 0 th.equations) e).0

  pub told_cancel : (r : Result (Unit {0}) ConvFail) → Tells r (conv_of th) → OnOk r (AllCancel th)
  told_cancel (Ok u) t = cancel_none t
  told_cancel (Err e) t = tt

  pub told_convergent : AreSorts th.sig.sorts → IsAcyclic th.sig.sorts → PairsCommute th.sig → (r : Result (Unit {0}) ConvFail) → Tells r (conv_of th) → OnOk r (IsConvergent th)
  told_convergent sorts acyclic commute (Ok u) t = none_convergent th sorts acyclic commute plain (cancel_none t) t
  told_convergent sorts acyclic commute (Err e) t = tt

  pub told_pair : (r : Result (Unit {0}) ConvFail) → Tells r (conv_of th) → (from left right : Term) → IsErrOf r (Pair from left right) → Splits from left right th
  told_pair r t from left right is =
      let pair : conv_of th ≡ Some (Pair from left right) = subst (λ q. Tells q (conv_of th)) is t in
      let cancel : AllCancel th = all_cancel th.sig.sorts decides th.equations (shape_first from left right th pair).0 in
      pair_splits from left right th plain cancel pair
