-- The fault of an overlap, read off what unification answers.
use Rattle.std.proofs.Common.{◌≡◌, ℕ, ◌+◌, ◌^◌, ◌<◌, ◌≤◌, false, Option, Some, None, Ok, Err, List, [], ◌∷◌, map, length, get_or, refl, sym, ◌∙◌, ap, subst, arith}
use Rattle.std.specs.Prelude.{All, Contains, Result}
use Rattle.npa_sorts.specs.Subsorts.{Subsorts}
use Rattle.npa_term.specs.declared.term.Var.{Var as Variable}
use Rattle.npa_term.specs.declared.term.Term.{Term}
use Rattle.npa_term.specs.Bound.{applied}
use Rattle.npa_term.specs.Variables.{renamed, variables}
use Rattle.npa_sig.specs.declared.protocol.Equation.{Equation}
use Rattle.npa_rewrite.specs.declared.theory.Theory.{Theory}
use Rattle.npa_unify.specs.declared.error.UnifyFail.{UnifyFail}
use Rattle.npa_unify.specs.declared.error.UnifyFail.TheVariants.{TooMany, TooLarge}
use Rattle.npa_unify.specs.Answers.{judged, unifiers}
use Rattle.npa_unify.specs.Unifiers.{AreFit}
use Rattle.npa_unify.proofs.Members.{all_from, member_at}
use Rattle.npa_conv.specs.declared.error.ConvFail.{ConvFail}
use Rattle.npa_conv.specs.declared.error.ConvFail.TheVariants.{Unifiers, Symbols}
use Rattle.npa_conv.specs.declared.pairs.Part.{Part}
use Rattle.npa_conv.specs.Overlaps.{base_of, hole, holes, next_of, overlap, past}
use Rattle.npa_conv.specs.Places.{exchanged, hole_at}
use Rattle.npa_conv.specs.Theories.{IsPlaced, IsPlainTheory}
use Rattle.npa_conv.specs.Verdict.{Tells, crossing, first_fault, judged_fault, overlap_fault, pair_fault}
use Rattle.npa_conv.proofs.Exchanges.{exchanged_hole}
use Rattle.npa_conv.proofs.Overlapping.{overlap_fit}
use Rattle.npa_conv.proofs.Plainness.{base_small, holeless, plain_of}

-- what an answer of unification makes of an overlap
module _ (th : Theory) (m : ℕ) (i : Equation) (p : Term × Term) (n : ℕ) (j : Equation) where
  pub told : (ps : List (Term × Term)) (next : ℕ) → ps ≡ overlap i p.0 j → next ≡ next_of i j → (r : Result (List (List (Variable × Term))) UnifyFail) →
      judged (unifiers th.sig.sorts ps next) ≡ r → overlap_fault th m i p n j ≡ judged_fault th m n i (crossing i j p.1) r
  told ps next same count r e =
      ap (judged_fault th m n i (crossing i j p.1))
      (sym (ap (λ qs. judged (unifiers th.sig.sorts qs next)) same ∙ ap (λ k. judged (unifiers th.sig.sorts (overlap i p.0 j) k)) count) ∙ e)

  -- there is no unifier
  pub told_none : (part : Term) → part ≡ p.0 → unifiers th.sig.sorts ((part, renamed (base_of i) j.left) ∷ []) (next_of i j) ≡ [] → overlap_fault th m i p n j ≡ None
  told_none part same e = told ((part, renamed (base_of i) j.left) ∷ []) (next_of i j) (ap (λ t. (t, renamed (base_of i) j.left) ∷ []) same) refl (Ok []) (ap judged e)

module _ (th : Theory) (plain : IsPlainTheory th) (part : Part) (placed : IsPlaced th part) (j : Equation) (second : Contains th.equations j) where
  abbrev i : Equation
  i = part.equation.now

  abbrev p : Term × Term
  p = hole_at i.left part.place

  is_hole : Contains (holes i.left) (p.0, p.1)
  is_hole = member_at (holes i.left) part.place (i.left, i.left) placed.within

  -- the overlap is fit for unification
  pub fit : (ps : List (Term × Term)) (next : ℕ) → ps ≡ overlap i part.term.now j → next ≡ past (variables j.left) + part.base → AreFit th.sig.sorts ps next
  fit ps next same count =
      subst (λ k. AreFit th.sig.sorts ps k) (sym (count ∙ ap (λ b. past (variables j.left) + b) placed.base))
      (subst (λ qs. AreFit th.sig.sorts qs (next_of i j)) (sym (same ∙ ap (λ t. overlap i t j) placed.term))
      (overlap_fit th plain i j placed.listed second p.0 p.1 is_hole))

  pub few_past : past (variables j.left) ≤ 2 ^ 30
  few_past = base_small th plain j second

  pub few_base : part.base ≤ 2 ^ 30
  few_base = (let small : base_of i ≤ 2 ^ 30 = base_small th plain i placed.listed in subst (λ b. b ≤ 2 ^ 30) (sym placed.base) small)

  pub left_fits : All (λ v. v.num + part.base < 2 ^ 32) (variables j.left)
  left_fits =
      all_from (λ v. v.num + part.base < 2 ^ 32) (variables j.left)
      (λ v c. let small : v.num < 2 ^ 30 = (plain_of th plain j second).left.small v c in omega (arith, small, few_base))

  pub right_fits : All (λ v. v.num + part.base < 2 ^ 32) (variables j.right)
  right_fits =
      all_from (λ v. v.num + part.base < 2 ^ 32) (variables j.right)
      (λ v c. let small : v.num < 2 ^ 30 = (plain_of th plain j second).right.small v c in omega (arith, small, few_base))

  pub none : ((o : Subsorts) (base next : ℕ) → unifiers o ((part.term.now, renamed base j.left) ∷ []) next ≡ []) → (n : ℕ) →
      overlap_fault th part.number i p n j ≡ None
  none never n = told_none th part.number i p n j part.term.now placed.term (never th.sig.sorts (base_of i) (next_of i j))

  -- what is made of the first left side is the crossing
  crossed_is : (right crossed : Term) → right ≡ renamed part.base j.right → crossed ≡ (exchanged right i.left (Some part.place)).0 → crossed ≡ crossing i j p.1
  crossed_is right crossed made e =
      e ∙ exchanged_hole right i.left part.place (holeless th plain i placed.listed) placed.within
      ∙ ap (λ r. applied ((hole, r) ∷ []) p.1) (made ∙ ap (λ b. renamed b j.right) placed.base)

  pub all_crossed : (right crossed : Term) (ss : List (List (Variable × Term))) (r : Result (Unit {0}) ConvFail) → right ≡ renamed part.base j.right →
      crossed ≡ (exchanged right i.left (Some part.place)).0 → Tells r (first_fault (pair_fault th i crossed) ss) → Tells r (first_fault (pair_fault th i (crossing i j p.1)) ss)
  all_crossed right crossed ss r made e t = subst (λ x. Tells r (first_fault (pair_fault th i x) ss)) (crossed_is right crossed made e) t

  module _ (ps : List (Term × Term)) (next : ℕ) (same : ps ≡ overlap i part.term.now j) (count : next ≡ past (variables j.left) + part.base) (n : ℕ) where
    read : (r : Result (List (List (Variable × Term))) UnifyFail) → judged (unifiers th.sig.sorts ps next) ≡ r →
        overlap_fault th part.number i p n j ≡ judged_fault th part.number n i (crossing i j p.1) r
    read =
        told th part.number i p n j ps next (same ∙ ap (λ t. overlap i t j) placed.term) (count ∙ ap (λ b. past (variables j.left) + b) placed.base)

    pub read_found : (ss : List (List (Variable × Term))) (r : Result (Unit {0}) ConvFail) → judged (unifiers th.sig.sorts ps next) ≡ Ok ss →
        Tells r (first_fault (pair_fault th i (crossing i j p.1)) ss) → Tells r (overlap_fault th part.number i p n j)
    read_found ss r e t = subst (Tells r) (sym (read (Ok ss) e)) t

    pub read_many : judged (unifiers th.sig.sorts ps next) ≡ Err TooMany → overlap_fault th part.number i p n j ≡ Some (Unifiers part.number n)
    read_many e = read (Err TooMany) e

    pub read_large : (k : ℕ) → judged (unifiers th.sig.sorts ps next) ≡ Err (TooLarge k) → overlap_fault th part.number i p n j ≡ Some (Symbols k)
    read_large k e = read (Err (TooLarge k)) e
