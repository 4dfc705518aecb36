-- What has to be unified at an overlap is fit for it.
use Rattle.std.proofs.Common.{◌≡◌, ℕ, ◌+◌, ◌^◌, ◌<◌, ◌≤◌, ◌⊎◌, List, [], ◌∷◌, ◌++◌, map, false, refl, sym, ◌∙◌, ap, subst, inl, inr, arith}
use Rattle.std.specs.Prelude.{Contains}
use Rattle.npa_sorts.specs.Subsorts.{IsSort}
use Rattle.npa_term.specs.declared.term.Var.{Var as Variable}
use Rattle.npa_term.specs.declared.term.Term.{Term}
use Rattle.npa_term.specs.Variables.{variables, renamed, raised_var}
use Rattle.npa_term.proofs.RenamedLaws.{variables-renamed}
use Rattle.npa_sig.specs.declared.protocol.Equation.{Equation}
use Rattle.npa_rewrite.specs.declared.theory.Theory.{Theory}
use Rattle.npa_unify.specs.Branches.{pair_variables}
use Rattle.npa_unify.specs.Unifiers.{AreFit, AreLow, HaveOneSort}
use Rattle.npa_unify.proofs.Members.{map_member, nowhere}
use Rattle.npa_unify.proofs.PairVariables.{pair_cases}
use Rattle.npa_conv.specs.Overlaps.{HasOneSort, base_of, holes, next_of, overlap, past}
use Rattle.npa_conv.specs.Theories.{IsPlainTheory}
use Rattle.npa_conv.proofs.Plainness.{base_small, one_sort, past_above, sort_of}
use Rattle.npa_conv.proofs.Within.{part_variables}

-- a variable of an overlap is one of the part, or one of the second left side, raised
pub record IsRaised (base : ℕ) (vs : List Variable) (v : Variable) : Type 0 where
  pub from : Variable
  pub occurs : Contains vs from
  pub raised : raised_var base from ≡ v

pub overlap_cases : (i j : Equation) (part : Term) (v : Variable) → Contains (pair_variables (overlap i part j)) v →
    Contains (variables part) v ⊎ IsRaised (base_of i) (variables j.left) v
overlap_cases i j part v c =
    elim (pair_cases (part, renamed (base_of i) j.left) [] v c) [
      | inl d ↦ inl d
      | inr d ↦ elim d [
        | inl e ↦
            let from = map_member (raised_var (base_of i)) (variables j.left) v (subst (λ vs. Contains vs v) (variables-renamed (base_of i) j.left) e) in
            inr (record { from = from.0; occurs = from.1; raised = from.2 })
        | inr e ↦ absurd (nowhere v e)
      ]
    ]

module _ (i j : Equation) (part around : Term) (is : Contains (holes i.left) (part, around)) where
  -- a variable of the part has a number below the base, and a raised one hasn't
  pub low_part : (v : Variable) → Contains (variables part) v → v.num < base_of i
  low_part v c = past_above (variables i.left) v (part_variables i.left part around is v c)

  raised_number : (v : Variable) (r : IsRaised (base_of i) (variables j.left) v) → v.num ≡ r.from.num + base_of i
  raised_number v r = sym (ap (λ (x : Variable). x.num) r.raised)

  pub overlap_low : AreLow (overlap i part j) (next_of i j)
  overlap_low v c =
      elim (overlap_cases i j part v c) [
        | inl d ↦ (let small : v.num < base_of i = low_part v d in omega (arith, small))
        | inr r ↦
            let small : r.from.num < past (variables j.left) = past_above (variables j.left) r.from r.occurs in
            let is : v.num ≡ r.from.num + base_of i = raised_number v r in
            omega (arith, small, is)
      ]

  both_raised : HasOneSort (variables j.left) → (v w : Variable) → IsRaised (base_of i) (variables j.left) v → IsRaised (base_of i) (variables j.left) w → v.num ≡ w.num → v ≡ w
  both_raised one v w a b same =
      let first : v.num ≡ a.from.num + base_of i = raised_number v a in
      let second : w.num ≡ b.from.num + base_of i = raised_number w b in
      let number : a.from.num ≡ b.from.num = omega (arith, first, second, same) in
      sym a.raised ∙ ap (raised_var (base_of i)) (one a.from b.from a.occurs b.occurs number) ∙ b.raised

  apart : (v w : Variable) → Contains (variables part) v → IsRaised (base_of i) (variables j.left) w → v.num ≡ w.num → ⊥
  apart v w c r same =
      let low : v.num < base_of i = low_part v c in
      let high : w.num ≡ r.from.num + base_of i = raised_number w r in
      omega (arith, low, high, same)

  pub overlap_one : HasOneSort (variables i.left) → HasOneSort (variables j.left) → HaveOneSort (overlap i part j)
  overlap_one first second v w c d same =
      elim (overlap_cases i j part v c) [
        | inl a ↦ elim (overlap_cases i j part w d) [
          | inl b ↦ first v w (part_variables i.left part around is v a) (part_variables i.left part around is w b) same
          | inr b ↦ absurd (apart v w a b same)
        ]
        | inr a ↦ elim (overlap_cases i j part w d) [
          | inl b ↦ absurd (apart w v b a (sym same))
          | inr b ↦ both_raised second v w a b same
        ]
      ]

-- So an overlap of two equations of a plain theory is fit.
pub overlap_fit : (th : Theory) → IsPlainTheory th → (i j : Equation) → Contains th.equations i → Contains th.equations j →
    (part around : Term) → Contains (holes i.left) (part, around) → AreFit th.sig.sorts (overlap i part j) (next_of i j)
overlap_fit th plain i j first second part around is = record {
  sorts = λ v c. elim (overlap_cases i j part v c) [
    | inl d ↦ sort_of th plain i first v (part_variables i.left part around is v d)
    | inr r ↦ subst (λ (x : Variable). IsSort th.sig.sorts x.sort) r.raised (sort_of th plain j second r.from r.occurs)
  ];
  low = overlap_low i j part around is;
  room = (
      let one : base_of i ≤ 2 ^ 30 = base_small th plain i first in
      let two : past (variables j.left) ≤ 2 ^ 30 = base_small th plain j second in
      omega (arith, one, two)
      );
  one = overlap_one i j part around is (one_sort th plain i first) (one_sort th plain j second);
}
