-- What the verdict says: a theory without a fault is convergent, and a critical pair that isn't joined has
-- two different normal forms.
use Rattle.std.proofs.Common.{◌≡◌, ◌⊎◌, ℕ, ◌+◌, ◌-◌, ◌^◌, min, Bool, true, false, cond, nat_le, nat_lt, Option, None, Some, Result, Ok, Err, List, [], ◌∷◌, length, refl, sym, ◌∙◌, ap, subst, inl, inr}
use Rattle.std.specs.Prelude.{◌≢◌, Contains}
use Rattle.std.specs.Option.{option_or}
use Rattle.npa_sorts.specs.Subsorts.{AreSorts, Subsorts, at_or_below}
use Rattle.npa_sorts.proofs.LowerLaws.{IsAcyclic}
use Rattle.npa_term.specs.declared.term.Var.{Var as Variable}
use Rattle.npa_term.specs.declared.term.Term.{Term}
use Rattle.npa_term.specs.Bound.{applied}
use Rattle.npa_term.specs.Canonical.{canonical}
use Rattle.npa_term.specs.Computed.{equal as equal_terms}
use Rattle.npa_term.specs.Parts.{least_sort}
use Rattle.npa_term.specs.Same.{through}
use Rattle.npa_term.specs.Symbols.{symbol_count}
use Rattle.npa_term.proofs.CanonicalLaws.{canonical_same}
use Rattle.npa_term.proofs.Identity.{equal_are, equal_itself}
use Rattle.npa_sig.specs.declared.protocol.Equation.{Equation}
use Rattle.npa_sig.specs.Operators.{PairsCommute}
use Rattle.npa_rewrite.specs.declared.theory.Theory.{Theory}
use Rattle.npa_rewrite.specs.Innermost.{normalized}
use Rattle.npa_rewrite.specs.Reducing.{Joins, Leads, equal, chain}
use Rattle.npa_rewrite.specs.Rewriting.{AllCancel, IsConvergent, Steps}
use Rattle.npa_rewrite.proofs.Leading.{steps_lead}
use Rattle.npa_rewrite.proofs.Lightening.{cancel_lightens}
use Rattle.npa_rewrite.proofs.Normalized.{normalized_is}
use Rattle.npa_unify.specs.declared.error.UnifyFail.TheVariants.{TooMany}
use Rattle.npa_unify.specs.Answers.{distinct, first_large, judged, judged_as, unifiers}
use Rattle.npa_unify.proofs.Answering.{answered}
use Rattle.npa_unify.proofs.Choosing.{from_distinct}
use Rattle.npa_unify.proofs.Members.{here, later}
use Rattle.npa_conv.specs.declared.error.ConvFail.{ConvFail}
use Rattle.npa_conv.specs.declared.error.ConvFail.TheVariants.{Pair, Shape, SortUp, Symbols, Unifiers}
use Rattle.npa_conv.specs.Overlaps.{holes, next_of, overlap}
use Rattle.npa_conv.specs.Theories.{IsPlainTheory}
use Rattle.npa_conv.specs.Verdict.{are_shaped, conv_of, crossing, first_at, first_fault, from_of, judged_fault, left_of, overlap_fault, pair_fault, pairs_fault, right_of, shape_fault}
use Rattle.npa_conv.proofs.Cancelling.{both_none, none_at, none_of}
use Rattle.npa_conv.proofs.Factors.{AreJoined, critical}
use Rattle.npa_conv.proofs.Overlapping.{overlap_low, overlap_one}
use Rattle.npa_conv.proofs.Plainness.{holeless, one_sort}
use Rattle.npa_conv.proofs.Replacing.{left_steps, right_steps}
use Rattle.npa_conv.proofs.Unique.{critical_convergent}
use Rattle.npa_conv.proofs.Verdicts.{sides_fault, sized_fault}

-- ## No fault

sized_none : (n : ℕ) (rest : Option ConvFail) (b : Bool) → cond b (Some (Symbols (min n (2 ^ 64 - 1)))) rest ≡ None → rest ≡ None
sized_none n rest true e = cc
sized_none n rest false e = e

sides_none : (from left right : Term) (b : Bool) → equal_terms left right ≡ b → cond b None (Some (Pair from left right)) ≡ None → left ≡ right
sides_none from left right true same e = equal_are left right same
sides_none from left right false same e = cc

pair_none : (th : Theory) (i : Equation) (crossed : Term) (s : List (Variable × Term)) → pair_fault th i crossed s ≡ None → left_of th i s ≡ right_of th crossed s
pair_none th i crossed s e =
    let rest : Option ConvFail = sides_fault (from_of i s) (left_of th i s) (right_of th crossed s) in
    sides_none (from_of i s) (left_of th i s) (right_of th crossed s) (equal_terms (left_of th i s) (right_of th crossed s)) refl
    (sized_none (symbol_count (from_of i s)) rest (nat_lt 1024 (symbol_count (from_of i s))) e)

module _ (th : Theory) (m n : ℕ) (i : Equation) (crossed : Term) where
  counted_none : (b : Bool) (ss : List (List (Variable × Term))) → judged_fault th m n i crossed (cond b (Err TooMany) (Ok (distinct ss))) ≡ None →
      first_fault (pair_fault th i crossed) (distinct ss) ≡ None
  counted_none true ss e = cc
  counted_none false ss e = e

  large_none : (o : Option ℕ) (ss : List (List (Variable × Term))) → judged_fault th m n i crossed (judged_as o ss) ≡ None → first_fault (pair_fault th i crossed) (distinct ss) ≡ None
  large_none (Some k) ss e = cc
  large_none None ss e = counted_none (nat_le 4097 (length ss)) ss e

  judged_none : (ss : List (List (Variable × Term))) → judged_fault th m n i crossed (judged ss) ≡ None → first_fault (pair_fault th i crossed) (distinct ss) ≡ None
  judged_none ss e = large_none (first_large ss) ss e

leads_form : (th : Theory) → AllCancel th → (t : Term) → Leads th t (normalized th (canonical t))
leads_form th cancel t =
    chain t (canonical (canonical t)) (normalized th (canonical t))
    (equal t (canonical (canonical t)) (through t (canonical t) (canonical (canonical t)) (canonical_same t) (canonical_same (canonical t))))
    (steps_lead th (normalized_is th cancel (canonical t)).reached)

joined_none : (th : Theory) → AllCancel th → first_at (pairs_fault th) 0 th.equations ≡ None → AreJoined th
joined_none th cancel e i j first second part around is s c =
    let parts = none_at (pairs_fault th) 0 th.equations e i first in
    let all = none_of (λ p. first_at (overlap_fault th parts.0 i p) 0 th.equations) (holes i.left) parts.1 (part, around) is in
    let one = none_at (overlap_fault th parts.0 i (part, around)) 0 th.equations all j second in
    let pairs = judged_none th parts.0 one.0 i (crossing i j around) (unifiers th.sig.sorts (overlap i part j) (next_of i j)) one.1 in
    let pair = none_of (pair_fault th i (crossing i j around)) (distinct (unifiers th.sig.sorts (overlap i part j) (next_of i j))) pairs s c in
    record {
      to = left_of th i s;
      left = leads_form th cancel (applied s i.right);
      right = subst (Leads th (applied s (crossing i j around))) (sym (pair_none th i (crossing i j around) s pair)) (leads_form th cancel (applied s (crossing i j around)));
    }

-- without a fault each well-sorted term has one normal form
pub none_convergent : (th : Theory) → AreSorts th.sig.sorts → IsAcyclic th.sig.sorts → PairsCommute th.sig → IsPlainTheory th → AllCancel th → conv_of th ≡ None → IsConvergent th
none_convergent th sorts acyclic commute plain cancel e =
    let joined = joined_none th cancel (both_none (first_at (shape_fault th.sig.sorts) 0 th.equations) (first_at (pairs_fault th) 0 th.equations) e).1 in
    critical_convergent th cancel commute (holeless th plain)
    (critical th symbol_count (cancel_lightens th cancel) sorts acyclic (holeless th plain) (one_sort th plain) joined)

-- ## A pair

or_some : {A : Type 0} (f g : Option A) (x : A) → option_or f g ≡ Some x → (f ≡ Some x) ⊎ ((f ≡ None) × (g ≡ Some x))
or_some None g x e = inr (refl, e)
or_some (Some y) g x e = inl e

some_at : {A : Type 0} (fault : ℕ → A → Option ConvFail) (k : ℕ) (xs : List A) (e : ConvFail) → first_at fault k xs ≡ Some e → (x : A) × (n : ℕ) × Contains xs x × (fault n x ≡ Some e)
some_at fault k [] e is = cc
some_at fault k (y ∷ ys) e is =
    elim (or_some (fault k y) (first_at fault (k + 1) ys) e is) [
      | inl own ↦ (y, k, here y ys, own)
      | inr rest ↦ (let found = some_at fault (k + 1) ys e rest.1 in (found.0, found.1, later y found.0 ys found.2, found.3))
    ]

some_of : {A : Type 0} (fault : A → Option ConvFail) (xs : List A) (e : ConvFail) → first_fault fault xs ≡ Some e → (x : A) × Contains xs x × (fault x ≡ Some e)
some_of fault [] e is = cc
some_of fault (y ∷ ys) e is =
    elim (or_some (fault y) (first_fault fault ys) e is) [
      | inl own ↦ (y, here y ys, own)
      | inr rest ↦ (let found = some_of fault ys e rest.1 in (found.0, later y found.0 ys found.1, found.2))
    ]

module _ (from left right : Term) where
  -- the equations by themselves have other faults
  tests_other : (a b : Bool) (n : ℕ) → cond a (cond b None (Some (SortUp n))) (Some (Shape n)) ≡ Some (Pair from left right) → ⊥
  tests_other true true n e = cc
  tests_other true false n e = cc
  tests_other false b n e = cc

  no_shape : (o : Subsorts) (es : List Equation) → first_at (shape_fault o) 0 es ≡ Some (Pair from left right) → ⊥
  no_shape o es is =
      let found = some_at (shape_fault o) 0 es (Pair from left right) is in
      let e : Equation = found.0 in
      tests_other (are_shaped e.left e.right) (at_or_below o (least_sort e.right) (least_sort e.left)) found.1 found.3

  -- two sides that differ
  record Sides (a b c : Term) : Type 0 where
    pub from_is : a ≡ from
    pub left_is : b ≡ left
    pub right_is : c ≡ right
    pub differ : b ≡ c → ⊥

  sides_some : (a b c : Term) (t : Bool) → equal_terms b c ≡ t → cond t None (Some (Pair a b c)) ≡ Some (Pair from left right) → Sides a b c
  sides_some a b c true same e = cc
  sides_some a b c false same e = record {
    from_is = cc;
    left_is = cc;
    right_is = cc;
    differ = λ is. (let itself : equal_terms b c ≡ true = subst (λ x. equal_terms b x ≡ true) is (equal_itself b) in cc);
  }

  sized_some : (n : ℕ) (rest : Option ConvFail) (b : Bool) → cond b (Some (Symbols (min n (2 ^ 64 - 1)))) rest ≡ Some (Pair from left right) → rest ≡ Some (Pair from left right)
  sized_some n rest true e = cc
  sized_some n rest false e = e

  pair_some : (th : Theory) (i : Equation) (crossed : Term) (s : List (Variable × Term)) → pair_fault th i crossed s ≡ Some (Pair from left right) →
      Sides (from_of i s) (left_of th i s) (right_of th crossed s)
  pair_some th i crossed s e =
      let rest : Option ConvFail = sides_fault (from_of i s) (left_of th i s) (right_of th crossed s) in
      sides_some (from_of i s) (left_of th i s) (right_of th crossed s) (equal_terms (left_of th i s) (right_of th crossed s)) refl
      (sized_some (symbol_count (from_of i s)) rest (nat_lt 1024 (symbol_count (from_of i s))) e)

  module _ (th : Theory) (m n : ℕ) (i : Equation) (crossed : Term) where
    counted_some : (b : Bool) (ss : List (List (Variable × Term))) → judged_fault th m n i crossed (cond b (Err TooMany) (Ok (distinct ss))) ≡ Some (Pair from left right) →
        first_fault (pair_fault th i crossed) (distinct ss) ≡ Some (Pair from left right)
    counted_some true ss e = cc
    counted_some false ss e = e

    large_some : (o : Option ℕ) (ss : List (List (Variable × Term))) → judged_fault th m n i crossed (judged_as o ss) ≡ Some (Pair from left right) →
        first_fault (pair_fault th i crossed) (distinct ss) ≡ Some (Pair from left right)
    large_some (Some k) ss e = cc
    large_some None ss e = counted_some (nat_le 4097 (length ss)) ss e

    judged_some : (ss : List (List (Variable × Term))) → judged_fault th m n i crossed (judged ss) ≡ Some (Pair from left right) →
        first_fault (pair_fault th i crossed) (distinct ss) ≡ Some (Pair from left right)
    judged_some ss e = large_some (first_large ss) ss e

  -- the term goes on to both
  abbrev pub Splits : Theory → Type 0
  Splits th = Steps th from left × Steps th from right × (left ≢ right)

  sides_split : (th : Theory) (a b c : Term) → Sides a b c → Steps th a b → Steps th a c → Splits th
  sides_split th a b c sides one two = (
    subst (λ x. Steps th x left) sides.from_is (subst (Steps th a) sides.left_is one),
    subst (λ x. Steps th x right) sides.from_is (subst (Steps th a) sides.right_is two),
    λ e. sides.differ (sides.left_is ∙ e ∙ sym sides.right_is),
  )

  found_split : (th : Theory) → IsPlainTheory th → AllCancel th → first_at (pairs_fault th) 0 th.equations ≡ Some (Pair from left right) → Splits th
  found_split th plain cancel e =
      let o = th.sig.sorts in
      let own = some_at (pairs_fault th) 0 th.equations (Pair from left right) e in
      let i : Equation = own.0 in
      let m : ℕ = own.1 in
      let place = some_of (λ p. first_at (overlap_fault th m i p) 0 th.equations) (holes i.left) (Pair from left right) own.3 in
      let part : Term = place.0.0 in
      let around : Term = place.0.1 in
      let other = some_at (overlap_fault th m i place.0) 0 th.equations (Pair from left right) place.2 in
      let j : Equation = other.0 in
      let ss = unifiers o (overlap i part j) (next_of i j) in
      let pairs = judged_some th m other.1 i (crossing i j around) ss other.3 in
      let pair = some_of (pair_fault th i (crossing i j around)) (distinct ss) (Pair from left right) pairs in
      let s = pair.0 in
      let answer = answered o (overlap i part j) (next_of i j) s (overlap_low i j part around place.1)
      (overlap_one i j part around place.1 (one_sort th plain i own.2) (one_sort th plain j other.2)) (from_distinct ss s pair.1) in
      let light = cancel_lightens th cancel in
      sides_split th (from_of i s) (left_of th i s) (right_of th (crossing i j around) s) (pair_some th i (crossing i j around) s pair.2)
      (left_steps th symbol_count light (holeless th plain) i j own.2 other.2 part around place.1 s answer cancel)
      (right_steps th symbol_count light (holeless th plain) i j own.2 other.2 part around place.1 s answer cancel)

  pub shape_first : (th : Theory) → conv_of th ≡ Some (Pair from left right) →
      (first_at (shape_fault th.sig.sorts) 0 th.equations ≡ None) × (first_at (pairs_fault th) 0 th.equations ≡ Some (Pair from left right))
  shape_first th e =
      elim (or_some (first_at (shape_fault th.sig.sorts) 0 th.equations) (first_at (pairs_fault th) 0 th.equations) (Pair from left right) e) [
        | inl own ↦ absurd (no_shape th.sig.sorts th.equations own)
        | inr rest ↦ rest
      ]

  -- a pair's term goes on to both of its sides, which differ
  pub pair_splits : (th : Theory) → IsPlainTheory th → AllCancel th → conv_of th ≡ Some (Pair from left right) → Splits th
  pair_splits th plain cancel e = found_split th plain cancel (shape_first th e).1
