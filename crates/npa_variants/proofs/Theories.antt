-- What is asked of a theory by which terms are narrowed.
use Rattle.std.proofs.Common.{◌≡◌, ℕ, zero, suc, true, List, [], ◌∷◌, Some, slice_get, inl, inr, ap}
use Rattle.std.specs.Prelude.{Contains}
use Rattle.npa_sorts.specs.Subsorts.{AreSorts, IsBelow}
use Rattle.npa_term.specs.declared.term.Term.{Term}
use Rattle.npa_sig.specs.Operators.{PairsCommute}
use Rattle.npa_sig.specs.Sorting.{well_sorted}
use Rattle.npa_sig.specs.WellFormed.{IsNameless}
use Rattle.npa_sig.specs.declared.protocol.Equation.{Equation}
use Rattle.npa_rewrite.specs.declared.theory.Theory.{Theory}
use Rattle.npa_rewrite.specs.Rewriting.{AllCancel, IsConvergent}
use Rattle.npa_rewrite.proofs.InstanceParts.{member_cases}
use Rattle.npa_variants.specs.Narrowable.{IsNarrowable}
use Rattle.npa_variants.proofs.Members.{none_there}

-- A theory whose equations cancel and converge, over an order of sorts; the left sides are well sorted,
-- and no fresh name stands in them.
pub record IsNarrowing (th : Theory) : Type 0 where
  pub cancel : AllCancel th
  pub pairs : PairsCommute th.sig
  pub convergent : IsConvergent th
  pub sorts : AreSorts th.sig.sorts
  pub acyclic : (r : ℕ) → IsBelow th.sig.sorts r r → ⊥
  pub sorted : (e : Equation) → Contains th.equations e → well_sorted th.sig e.left ≡ true
  pub nameless : (e : Equation) → Contains th.equations e → IsNameless e.left

-- a member has a place
pub placed : {A : Type 0} (xs : List A) (x : A) → Contains xs x → (k : ℕ) × (slice_get xs k ≡ Some x)
placed [] x c = absurd (none_there x c)
placed (y ∷ ys) x c =
    elim (member_cases y x ys c) [
      | inl e ↦ (zero, ap Some e)
      | inr d ↦ (let rest = placed ys x d in (suc rest.0, rest.1))
    ]

pub narrowing : (th : Theory) (terms : List Term) → IsNarrowable th terms → IsNarrowing th
narrowing th terms can = record {
  cancel = can.cancel;
  pairs = can.signature.pairs;
  convergent = can.convergent;
  sorts = can.sorts;
  acyclic = can.acyclic;
  sorted = λ e c. (let at = placed th.equations e c in (can.formed at.0 e at.1).left.term.sorted);
  nameless = λ e c. (let at = placed th.equations e c in (can.plain at.0 e at.1).left.nameless);
}
