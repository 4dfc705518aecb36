-- Terms over variables that are places in a list of sorts, with numbers that are bounded, can be tried.
use Rattle.std.proofs.Common.{◌≡◌, ℕ, ◌<◌, ◌^◌, true, List, Some, slice_get, length, get_or, sym, ◌∙◌, ap, subst}
use Rattle.std.specs.Prelude.{Contains}
use Rattle.std.proofs.lemmas.Option.{same_Some}
use Rattle.npa_term.specs.declared.term.Var.{Var as Variable}
use Rattle.npa_term.specs.declared.term.Op.{Op}
use Rattle.npa_term.specs.declared.term.Term.{Term, App}
use Rattle.npa_term.specs.Variables.{variables}
use Rattle.npa_term.proofs.Parts.{each_member}
use Rattle.npa_term.proofs.Renumbered.{member_variable}
use Rattle.npa_term.proofs.Rows.{variables_at}
use Rattle.npa_sig.specs.declared.protocol.Equation.{Equation}
use Rattle.npa_sig.specs.Signature.{Signature}
use Rattle.npa_sig.specs.WellFormed.{IsOwn, IsTermOver, IsPlainTerm, AreWellFormedEquations, IsPlainEquation}
use Rattle.npa_sig.specs.Sorting.{well_sorted}
use Rattle.npa_sig.proofs.SortedTerms.{arguments_sorted}
use Rattle.npa_accept.specs.Fit.{IsFitTerm}

same_variable : (v w : Variable) → v.num ≡ w.num → v.sort ≡ w.sort → v ≡ w
same_variable v w number sort = λ i. record { num = number i; sort = sort i }

pub own_one : (sorts : List ℕ) (t : Term) → IsOwn sorts t → (v w : Variable) → Contains (variables t) v → Contains (variables t) w → v.num ≡ w.num → v ≡ w
own_one sorts t own v w c d e =
    same_variable v w e (same_Some v.sort w.sort (sym (own v c) ∙ ap (slice_get sorts) e ∙ own w d))

pub own_fit : (sig : Signature) (sorts : List ℕ) (t : Term) → IsTermOver sig sorts t → IsPlainTerm t → IsFitTerm sig (2 ^ 30) t
own_fit sig sorts t over plain = record { sorted = over.sorted; low = plain.small; one = own_one sorts t over.own }

pub left_fit : (sig : Signature) (es : List Equation) (k : ℕ) (e : Equation) → AreWellFormedEquations sig es → ((j : ℕ) (d : Equation) → slice_get es j ≡ Some d → IsPlainEquation d) →
    slice_get es k ≡ Some e → IsFitTerm sig (2 ^ 30) e.left
left_fit sig es k e formed plain there = let is = formed k e there in own_fit sig is.sorts e.left is.left.term (plain k e there).left

-- and so can their arguments
pub argument_fit : (sig : Signature) (next : ℕ) (t : Term) (op : Op) (ts : List Term) (i : ℕ) (d : Term) → t ≡ App op ts → i < length ts → d ≡ get_or ts i d → IsFitTerm sig next t → IsFitTerm sig next d
argument_fit sig next t op ts i d e small is fit =
    let there : Contains ts d = (i, small, sym is) in
    let within : (v : Variable) → Contains (variables d) v → Contains (variables t) v =
    λ v c. subst (λ vs. Contains vs v) (sym (variables_at t op ts e)) (member_variable ts d v there c) in
    record {
      sorted = each_member (λ u. well_sorted sig u ≡ true) ts d (arguments_sorted sig op ts (subst (λ u. well_sorted sig u ≡ true) e fit.sorted)) there;
      low = λ v c. fit.low v (within v c);
      one = λ v w c b. fit.one v w (within v c) (within w b);
    }
