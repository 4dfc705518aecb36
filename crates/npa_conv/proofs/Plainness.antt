-- What holds of each equation of a plain theory.
use Rattle.std.proofs.Common.{◌≡◌, ℕ, zero, suc, ◌+◌, ◌^◌, ◌<◌, ◌≤◌, nat_lt, true, List, [], ◌∷◌, length, Some, slice_get, refl, sym, ◌∙◌, ap, subst, inl, inr, arith}
use Rattle.std.specs.Prelude.{Contains, max}
use Rattle.npa_sorts.specs.Subsorts.{IsSort}
use Rattle.npa_term.specs.declared.term.Var.{Var as Variable}
use Rattle.npa_term.specs.Variables.{variables}
use Rattle.npa_term.proofs.AgreeingLaws.{same_variable}
use Rattle.npa_sig.specs.declared.protocol.Equation.{Equation}
use Rattle.npa_sig.specs.Sorting.{is_sort}
use Rattle.npa_sig.specs.WellFormed.{IsPlainEquation, IsWellFormedEquation}
use Rattle.npa_rewrite.specs.declared.theory.Theory.{Theory}
use Rattle.npa_unify.proofs.Members.{here, later, nowhere, member_cases}
use Rattle.npa_conv.specs.Overlaps.{AreHoleless, HasOneSort, base_of, hole, past}
use Rattle.npa_conv.specs.Theories.{IsPlainTheory}

-- a member has a place, and what has a place is a member
pub placed : {A : Type 0} (xs : List A) (x : A) → Contains xs x → (k : ℕ) × (slice_get xs k ≡ Some x)
placed [] x c = absurd (nowhere x c)
placed (y ∷ ys) x c =
    elim (member_cases y x ys c) [
      | inl e ↦ (zero, ap Some e)
      | inr d ↦ (let rest = placed ys x d in (suc rest.0, rest.1))
    ]

pub listed : {A : Type 0} (xs : List A) (k : ℕ) (x : A) → slice_get xs k ≡ Some x → Contains xs x
listed [] k x e = cc
listed (y ∷ ys) zero x e = (let same : y ≡ x = cc in subst (Contains (y ∷ ys)) same (here y ys))
listed (y ∷ ys) (suc k) x e = later y x ys (listed ys k x e)

-- numbers below those past them
pub past_above : (vs : List Variable) (v : Variable) → Contains vs v → v.num < past vs
past_above [] v c = absurd (nowhere v c)
past_above (w ∷ vs) v c =
    elim (member_cases w v vs c) [
      | inl e ↦ (let same : w.num ≡ v.num = ap (λ (x : Variable). x.num) e in omega (arith, same))
      | inr d ↦ (let rest : v.num < past vs = past_above vs v d in omega (arith, rest))
    ]

pub past_within : (n : ℕ) (vs : List Variable) → ((v : Variable) → Contains vs v → v.num < n) → past vs ≤ n
past_within n [] small = omega arith
past_within n (w ∷ vs) small =
    let first : w.num < n = small w (here w vs) in
    let rest : past vs ≤ n = past_within n vs (λ v c. small v (later w v vs c)) in
    omega (arith, first, rest)

module _ (th : Theory) (plain : IsPlainTheory th) where
  pub plain_of : (e : Equation) → Contains th.equations e → IsPlainEquation e
  plain_of e c = (let at = placed th.equations e c in plain.plain at.0 e at.1)

  pub formed_of : (e : Equation) → Contains th.equations e → IsWellFormedEquation th.sig e
  formed_of e c = (let at = placed th.equations e c in plain.formed at.0 e at.1)

  pub base_small : (e : Equation) → Contains th.equations e → base_of e ≤ 2 ^ 30
  base_small e c = past_within (2 ^ 30) (variables e.left) (plain_of e c).left.small

  -- the hole stands in no left side
  pub holeless : AreHoleless th
  holeless e c d = (let small : hole.num < 2 ^ 30 = (plain_of e c).left.small hole d in omega (arith, small))

  -- no number stands there with two sorts
  pub one_sort : (e : Equation) → Contains th.equations e → HasOneSort (variables e.left)
  one_sort e c v w has also same =
      let form = formed_of e c in
      let first : slice_get form.sorts v.num ≡ Some v.sort = form.left.term.own v has in
      let second : slice_get form.sorts w.num ≡ Some w.sort = form.left.term.own w also in
      let both : Some v.sort ≡ Some w.sort = sym first ∙ ap (slice_get form.sorts) same ∙ second in
      let sorts : v.sort ≡ w.sort = cc in
      same_variable v w same sorts

  pub sort_of : (e : Equation) → Contains th.equations e → (v : Variable) → Contains (variables e.left) v → IsSort th.sig.sorts v.sort
  sort_of e c v has =
      let form = formed_of e c in
      let test : is_sort th.sig v.sort ≡ true = form.are_sorts v.sort (listed form.sorts v.num v.sort (form.left.term.own v has)) in
      grind arith
