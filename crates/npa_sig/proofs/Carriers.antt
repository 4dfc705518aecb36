-- The marks of the sorts that carry names.
use Rattle.std.proofs.Common.{◌≡◌, ◌≢◌, ℕ, zero, suc, ◌+◌, ◌<◌, ◌≤◌, Bool, true, false, not, ◌||◌, ◌⊎◌, List, [], ◌∷◌, None, Some, drop, length, replicate, get_or, set, drop-cons, add-one, refl, sym, ◌∙◌, ap, subst, inl, inr, arith}
use Rattle.std.specs.Prelude.{IsSomeAnd, slice_get}
use Rattle.std.proofs.lemmas.Bool.{and_parts, and_from, or_cases, or_left, or_right, cases_lt, cases_eq, cases_Bool, not-true}
use Rattle.std.proofs.lemmas.List.{get_or-set_same, get_or-set_other, length-set, length-replicate}
use Rattle.npa_sorts.specs.Subsorts.{AreSorts, IsSort, IsBelow, IsAtOrBelow, at_or_below}
use Rattle.npa_sorts.proofs.Steps.{at_or_below_trans}
use Rattle.npa_sorts.proofs.Climbs.{decides}
use Rattle.npa_sig.specs.declared.signature.OpDecl.{OpDecl}
use Rattle.npa_sig.specs.Signature.{Signature}
use Rattle.npa_sig.specs.Operators.{HaveSorts}
use Rattle.npa_sig.specs.Sizes.{IsFirstOp}
use Rattle.npa_sig.specs.Nameless.{CarriesNames, fresh_names, through, AreCarriers, any_marked, hands_names}
use Rattle.npa_sig.proofs.LeastTerms.{never_passes}
use Rattle.npa_sig.proofs.SizeLaws.{upper_sort}

pub any_step : (marks : List Bool) (sorts : List ℕ) (k d : ℕ) → k < length sorts →
    any_marked marks (drop k sorts) ≡ (get_or marks (get_or sorts k d) false || any_marked marks (drop (k + 1) sorts))
any_step marks sorts k d p = rw (drop-cons sorts k d, add-one) refl

-- how many sorts have no mark
abbrev pub unmarked : List Bool → ℕ
unmarked [] = 0
unmarked (false ∷ marks) = 1 + unmarked marks
unmarked (true ∷ marks) = unmarked marks

pub record AreMarked (sig : Signature) (marks : List Bool) : Type 0 where
  pub long : length marks ≡ sig.sorts.declared + 2
  pub sound : (s : ℕ) → get_or marks s false ≡ true → CarriesNames sig s
  pub fresh : get_or marks 1 false ≡ true
  pub upward : (r s : ℕ) → IsSort sig.sorts s → IsAtOrBelow sig.sorts r s → get_or marks r false ≡ true → get_or marks s false ≡ true

past_end : (marks : List Bool) (s : ℕ) → length marks ≤ s → get_or marks s false ≡ false
past_end [] s past = refl
past_end (x ∷ marks) zero past = absurd (let none : ⊥ = omega (arith, past) in none)
past_end (x ∷ marks) (suc s) past = past_end marks s (omega (arith, past))

bare_marks : (n s : ℕ) → get_or (replicate n false) s false ≡ false
bare_marks zero s = refl
bare_marks (suc n) zero = refl
bare_marks (suc n) (suc s) = bare_marks n s

-- a marked sort among some
marked_place : (marks : List Bool) (ss : List ℕ) → any_marked marks ss ≡ true → (k : ℕ) × (a : ℕ) × (slice_get ss k ≡ Some a) × (get_or marks a false ≡ true)
marked_place marks [] e = absurd (let none : ⊥ = cc in none)
marked_place marks (s ∷ ss) e =
    let rest = marked_place marks ss in
    elim (or_cases (get_or marks s false) (any_marked marks ss) e) [
      | inl here ↦ (zero, s, refl, here)
      | inr later ↦ let found = rest later in (suc found.0, found.1, found.2, found.3)
    ]

place_marked : (marks : List Bool) (ss : List ℕ) (k a : ℕ) → slice_get ss k ≡ Some a → get_or marks a false ≡ true → any_marked marks ss ≡ true
place_marked marks [] k a at marked = absurd (let none : ⊥ = cc in none)
place_marked marks (s ∷ ss) zero a at marked = or_left (get_or marks s false) (any_marked marks ss) (subst (λ x. get_or marks x false ≡ true) (let same : a ≡ s = cc in same) marked)
place_marked marks (s ∷ ss) (suc k) a at marked = or_right (get_or marks s false) (any_marked marks ss) (place_marked marks ss k a at marked)

-- only `Fresh` is marked at first
pub marked_fresh : (sig : Signature) (old new : List Bool) (n : ℕ) → old ≡ replicate n false → n ≡ sig.sorts.declared + 2 → new ≡ set old 1 true →
    ((s t : ℕ) → IsBelow sig.sorts s t → (s ≢ 1) × (t ≢ 1)) → AreMarked sig new
marked_fresh sig old new n bare size written apart =
    let long : length old ≡ sig.sorts.declared + 2 = ap length bare ∙ length-replicate n false ∙ size in
    let here : get_or new 1 false ≡ true = ap (λ xs. get_or xs 1 false) written ∙ get_or-set_same old 1 true false (omega (arith, long)) in
    let other : (s : ℕ) → (s ≡ 1 → ⊥) → get_or new s false ≡ false =
    λ s apart_from. ap (λ xs. get_or xs s false) written ∙ get_or-set_other old 1 s true false apart_from ∙ ap (λ xs. get_or xs s false) bare ∙ bare_marks n s in
    let only : (s : ℕ) → get_or new s false ≡ true → s ≡ 1 =
    λ s marked. elim (cases_eq s 1) [ inl same ↦ same | inr differs ↦ absurd (let wrong : false ≡ true = sym (other s differs) ∙ marked in let none : ⊥ = cc in none) ] in
    record {
      long = ap length written ∙ length-set old 1 true ∙ long;
      sound = λ s marked. subst (CarriesNames sig) (sym (only s marked)) fresh_names;
      fresh = here;
      upward = λ r s sort below marked. elim below [
        | inl same ↦ subst (λ x. get_or new x false ≡ true) same marked
        | inr strictly ↦ absurd ((apart r s strictly).0 (only r marked))
      ];
    }

-- each round leaves fewer sorts without a mark

unmarked_le : (old new : List Bool) → length new ≡ length old → ((s : ℕ) → get_or old s false ≡ true → get_or new s false ≡ true) → unmarked new ≤ unmarked old
unmarked_le [] [] long keeps = omega arith
unmarked_le [] (y ∷ new) long keeps = absurd (let none : ⊥ = omega (arith, long) in none)
unmarked_le (x ∷ old) [] long keeps = absurd (let none : ⊥ = omega (arith, long) in none)
unmarked_le (false ∷ old) (false ∷ new) long keeps = let rest = unmarked_le old new (omega (arith, long)) (λ s. keeps (suc s)) in omega (arith, rest)
unmarked_le (false ∷ old) (true ∷ new) long keeps = let rest = unmarked_le old new (omega (arith, long)) (λ s. keeps (suc s)) in omega (arith, rest)
unmarked_le (true ∷ old) (false ∷ new) long keeps = absurd (let wrong : false ≡ true = keeps 0 refl in let none : ⊥ = cc in none)
unmarked_le (true ∷ old) (true ∷ new) long keeps = unmarked_le old new (omega (arith, long)) (λ s. keeps (suc s))

unmarked_less : (old new : List Bool) (k : ℕ) → length new ≡ length old → ((s : ℕ) → get_or old s false ≡ true → get_or new s false ≡ true) → k < length old → get_or old k false ≡ false → get_or new k false ≡ true →
    unmarked new < unmarked old
unmarked_less [] new k long keeps small was is = absurd (let none : ⊥ = omega (arith, small) in none)
unmarked_less (x ∷ old) [] k long keeps small was is = absurd (let none : ⊥ = omega (arith, long) in none)
unmarked_less (true ∷ old) (y ∷ new) zero long keeps small was is = absurd (let none : ⊥ = cc in none)
unmarked_less (false ∷ old) (false ∷ new) zero long keeps small was is = absurd (let none : ⊥ = cc in none)
unmarked_less (false ∷ old) (true ∷ new) zero long keeps small was is = let rest = unmarked_le old new (omega (arith, long)) (λ s. keeps (suc s)) in omega (arith, rest)
unmarked_less (false ∷ old) (false ∷ new) (suc k) long keeps small was is = let rest = unmarked_less old new k (omega (arith, long)) (λ s. keeps (suc s)) (omega (arith, small)) was is in omega (arith, rest)
unmarked_less (false ∷ old) (true ∷ new) (suc k) long keeps small was is = let rest = unmarked_less old new k (omega (arith, long)) (λ s. keeps (suc s)) (omega (arith, small)) was is in omega (arith, rest)
unmarked_less (true ∷ old) (false ∷ new) (suc k) long keeps small was is = absurd (let wrong : false ≡ true = keeps 0 refl in let none : ⊥ = cc in none)
unmarked_less (true ∷ old) (true ∷ new) (suc k) long keeps small was is = unmarked_less old new k (omega (arith, long)) (λ s. keeps (suc s)) (omega (arith, small)) was is

-- the operator that hands names on
module _ (sig : Signature) (marks : List Bool) (num : ℕ) (decl : OpDecl) (at : slice_get sig.ops num ≡ Some decl) (found : IsFirstOp (hands_names marks) sig.ops (Some num)) where
  hands : (get_or marks decl.result false ≡ false) × (any_marked marks decl.args ≡ true)
  hands =
      let passed : hands_names marks decl ≡ true = subst (λ x. IsSomeAnd x (λ d. hands_names marks d ≡ true)) at found.0 in
      let parts = and_parts (not (get_or marks decl.result false)) (any_marked marks decl.args) passed in
      (not-true (get_or marks decl.result false) parts.0, parts.1)

  -- the sorts at or above its result sort are marked too
  module _ (new : List Bool) (long : length new ≡ length marks) (is : (s : ℕ) → s < length marks → get_or new s false ≡ (get_or marks s false || at_or_below sig.sorts decl.result s)) where
    stays : (s : ℕ) → get_or marks s false ≡ true → get_or new s false ≡ true
    stays s marked =
        elim (cases_lt s (length marks)) [
          | inl small ↦ is s small ∙ or_left (get_or marks s false) (at_or_below sig.sorts decl.result s) marked
          | inr past ↦ absurd (let wrong : false ≡ true = sym (past_end marks s past) ∙ marked in let none : ⊥ = cc in none)
        ]

    new_cases : (s : ℕ) → get_or new s false ≡ true → (get_or marks s false ≡ true) ⊎ IsAtOrBelow sig.sorts decl.result s
    new_cases s marked =
        elim (cases_lt s (length marks)) [
          | inl small ↦ elim (or_cases (get_or marks s false) (at_or_below sig.sorts decl.result s) (sym (is s small) ∙ marked)) [
            | inl old ↦ inl old
            | inr above ↦ inr ((decides sig.sorts decl.result s).0 above)
          ]
          | inr past ↦ absurd (let wrong : false ≡ true = sym (past_end new s (omega (arith, past, long))) ∙ marked in let none : ⊥ = cc in none)
        ]

    above_marked : length marks ≡ sig.sorts.declared + 2 → (s : ℕ) → IsSort sig.sorts s → IsAtOrBelow sig.sorts decl.result s → get_or new s false ≡ true
    above_marked size s sort above =
        is s (omega (arith, size, sort)) ∙ or_right (get_or marks s false) (at_or_below sig.sorts decl.result s) ((decides sig.sorts decl.result s).1 above)

    pub marked_more : AreMarked sig marks → AreMarked sig new
    marked_more kept = record {
      long = long ∙ kept.long;
      sound = λ s marked. elim (new_cases s marked) [
        | inl old ↦ kept.sound s old
        | inr above ↦
            let argument = marked_place marks decl.args hands.1 in
            through num decl argument.0 argument.1 s at argument.2 (kept.sound argument.1 argument.3) above
      ];
      fresh = stays 1 kept.fresh;
      upward = λ r s sort below marked. elim (new_cases r marked) [
        | inl old ↦ stays s (kept.upward r s sort below old)
        | inr above ↦ above_marked kept.long s sort (at_or_below_trans above below)
      ];
    }

    pub fewer_unmarked : AreMarked sig marks → HaveSorts sig.sorts sig.ops → unmarked new < unmarked marks
    fewer_unmarked kept have =
        let sort : IsSort sig.sorts decl.result = (have num decl at).0 in
        unmarked_less marks new decl.result long stays (omega (arith, sort, kept.long)) hands.0 (above_marked kept.long decl.result sort (inl refl))

-- where no operator hands names on, the marks are exact
module _ (sig : Signature) (marks : List Bool) (kept : AreMarked sig marks) (have : HaveSorts sig.sorts sig.ops) (pairs : AreSorts sig.sorts) (none_left : IsFirstOp (hands_names marks) sig.ops None) where
  result_marked : (num : ℕ) (decl : OpDecl) (k a : ℕ) → slice_get sig.ops num ≡ Some decl → slice_get decl.args k ≡ Some a → get_or marks a false ≡ true → get_or marks decl.result false ≡ true
  result_marked num decl k a at place marked =
      elim (cases_Bool (get_or marks decl.result false)) [
        | inl yes_marked ↦ yes_marked
        | inr unmarked_yet ↦
            let passes : hands_names marks decl ≡ true =
            and_from (not (get_or marks decl.result false)) (any_marked marks decl.args) (ap not unmarked_yet) (place_marked marks decl.args k a place marked) in
            let wrong : true ≡ false = sym passes ∙ never_passes sig.ops (hands_names marks) num decl none_left at in
            absurd (let none : ⊥ = cc in none)
      ]

  complete : {s : ℕ} → CarriesNames sig s → IsSort sig.sorts s → get_or marks s false ≡ true
  complete fresh_names sort = kept.fresh
  complete (through num decl k a s at place carries above) sort =
      kept.upward decl.result s sort above (result_marked num decl k a at place (complete carries ((have num decl at).1 k a place)))

  -- what carries names is a sort
  carries_sort : {s : ℕ} → CarriesNames sig s → IsSort sig.sorts s
  carries_sort fresh_names = omega arith
  carries_sort (through num decl k a s at place carries above) = upper_sort sig.sorts pairs decl.result s (have num decl at).0 above

  pub marks_exact : AreCarriers sig marks
  marks_exact = record { long = kept.long; exact = λ s. (kept.sound s, λ carries. complete carries (carries_sort carries)) }
