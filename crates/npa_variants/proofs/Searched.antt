-- What the search answers: a closed list, none of whose members covers another, with the first row first.
use Rattle.std.proofs.Common.{◌≡◌, ◌⊎◌, ◌<◌, ◌≤◌, ℕ, zero, suc, ◌+◌, Bool, true, false, not, cond, Result, Ok, Err, List, [], ◌∷◌, ◌++◌, length, get_or, map, inl, inr, refl, sym, ◌∙◌, ap, subst, append_assoc, append-nil, arith}
use Rattle.std.specs.Prelude.{⊤, Contains, AllPairs, filter}
use Rattle.std.proofs.lemmas.List.Elements.{Contains-append_left, Contains-append_right, Contains-append_cases, Contains-push, Contains-push_cases, Contains-get_or, filter-append}
use Rattle.npa_sorts.specs.Subsorts.{Subsorts}
use Rattle.npa_rewrite.specs.declared.theory.Theory.{Theory}
use Rattle.npa_rewrite.proofs.InstanceParts.{here, behind, member_cases}
use Rattle.npa_variants.specs.Rows.{Row, own_parts, covers_row}
use Rattle.npa_variants.specs.Search.{Kept, rows, Stop, followed, is_covered, uncovered, with_row, placed, level, begun, unless_ended, searched, variant_rows}
use Rattle.npa_variants.specs.Variants.{Covers, AreUncovered}
use Rattle.npa_variants.proofs.Members.{none_there, any_member, of_filtered}
use Rattle.npa_variants.proofs.Covers.{covers_itself, covers_through, covers_sound, covers_complete, covers_exact}
use Rattle.npa_variants.proofs.Closed.{Covered, IsClosed}
use Rattle.npa_variants.proofs.Levels.{went_on, Gives, ok_same, CoveredIn, Later, covered_later, rows_placed, placed_cases, of_kept, RowResult, level_done, level_keeps}

-- ## One level after the other

-- the last level kept nothing new, or there is one more
pub ended_or_more : {X S : Type 0} (xs : List X) (ended more l : S) → unless_ended xs ended more ≡ l → ((xs ≡ []) × (ended ≡ l)) ⊎ (more ≡ l)
ended_or_more [] ended more l e = inl (refl, e)
ended_or_more (x ∷ xs) ended more l e = inr e

-- what is kept as a level begins is what was kept
pub in_begun : (k : Kept) (r : Row) → Contains (rows k) r → Contains (rows (begun k)) r
in_begun k r c = Contains-append_left (rows k) [] r c

pub of_begun : (k : Kept) (r : Row) → Contains (rows (begun k)) r → Contains (rows k) r
of_begun k r c = elim (Contains-append_cases (rows k) [] r c) [ inl a ↦ a | inr n ↦ absurd (none_there r n) ]

-- the new rows are what they were, and the row
new_of_kept : (o : Subsorts) (w : Row) (k : Kept) (r : Row) → Contains (with_row o w k).new r → Contains k.new r ⊎ (w ≡ r)
new_of_kept o w k r c =
    elim (Contains-push_cases (uncovered o w k.new) w r c) [
      | inl a ↦ inl (of_filtered (λ x. not (covers_row o w x)) k.new r a).0
      | inr e ↦ inr e
    ]

module _ (most : ℕ) (last : Kept → Result (List Row) Stop) (th : Theory) (m : ℕ) (Sound : Row → Type 0)
    (sound_result : (r w : Row) → Sound r → RowResult th m r w → Sound w) where
  abbrev o : Subsorts
  o = th.sig.sorts

  abbrev AllSound : Kept → Type 0
  AllSound k = (r : Row) → Contains (rows k) r → Sound r

  sound_placed : (w : Row) (k l : Kept) → Sound w → AllSound k → placed most o w k ≡ Ok l → AllSound l
  sound_placed w k l is all e =
      elim (placed_cases most o w k l e) [
        | inl c ↦ subst AllSound c.1 all
        | inr c ↦ subst AllSound c.1 (λ r there. elim (of_kept o w k r there) [ inl old ↦ all r old.0 | inr same ↦ subst Sound same is ])
      ]

  -- the rows of a level are sound where those before are
  level_sound : (k l : Kept) → AllSound k → level most th m k.new (begun k) ≡ Ok l → AllSound l
  level_sound k l all e =
      level_keeps most th m AllSound Sound sound_placed k.new (λ r c w result. sound_result r w (all r (Contains-append_right k.old k.new r c)) result)
      (begun k) l (λ r c. all r (of_begun k r c)) e

  -- ## The answer is closed

  -- `At n r` where a row has results for so many levels at most
  module _ (At : ℕ → Row → Type 0) (next : (n : ℕ) (r w : Row) → Sound r → At (suc n) r → RowResult th m r w → At n w)
      (last_is : (k : Kept) (L : List Row) → last k ≡ Ok L → (rows k ≡ L) × ((r w : Row) → Contains k.new r → At zero r → RowResult th m r w → ⊥)) where
    -- what is known as a level begins
    record Ready (n : ℕ) (k : Kept) : Type 0 where
      sound : AllSound k
      tried : (r w : Row) → Contains k.old r → RowResult th m r w → CoveredIn o k w
      at : (r : Row) → Contains k.new r → At n r

    -- what is known of the answer
    record Ends (k : Kept) (L : List Row) : Type 0 where
      kept : (r : Row) → Contains (rows k) r → Covered o L r
      sound : (r : Row) → Contains L r → Sound r
      steps : (r w : Row) → Contains L r → RowResult th m r w → Covered o L w

    at_placed : (n : ℕ) (w : Row) (k l : Kept) → At n w → ((r : Row) → Contains k.new r → At n r) → placed most o w k ≡ Ok l → (r : Row) → Contains l.new r → At n r
    at_placed n w k l is all e =
        elim (placed_cases most o w k l e) [
          | inl c ↦ subst (λ j. (r : Row) → Contains j.new r → At n r) c.1 all
          | inr c ↦ subst (λ j. (r : Row) → Contains j.new r → At n r) c.1 (λ r there. elim (new_of_kept o w k r there) [ inl old ↦ all r old | inr same ↦ subst (At n) same is ])
        ]

    ready_next : (n : ℕ) (k l : Kept) → Ready (suc n) k → level most th m k.new (begun k) ≡ Ok l → Ready n l
    ready_next n k l ready e =
        let done = level_done most th m k.new (begun k) l e in
        record {
          sound = level_sound k l ready.sound e;
          tried = λ r w c result.
              elim (Contains-append_cases k.old k.new r (done.0.old r c)) [
                | inl a ↦ let over = ready.tried r w a result in covered_later o (begun k) l done.0 w (over.0, in_begun k over.0 over.1, over.2)
                | inr b ↦ done.1 r b w result
              ];
          at = level_keeps most th m (λ j. (r : Row) → Contains j.new r → At n r) (At n) (at_placed n) k.new
              (λ r c w result. next n r w (ready.sound r (Contains-append_right k.old k.new r c)) (ready.at r c) result)
              (begun k) l (λ r c. absurd (none_there r c)) e;
        }

    ends_here : (n : ℕ) (k : Kept) (L : List Row) → Ready n k → rows k ≡ L → ((r w : Row) → Contains k.new r → RowResult th m r w → ⊥) → Ends k L
    ends_here n k L ready is never =
        subst (Ends k) is (record {
          kept = λ r c. (r, c, covers_itself o r);
          sound = ready.sound;
          steps = λ r w c result.
              elim (Contains-append_cases k.old k.new r c) [
                | inl a ↦ ready.tried r w a result
                | inr b ↦ absurd (never r w b result)
              ];
        })

    ends_after : (k l : Kept) (L : List Row) → Later o (begun k) l → Ends l L → Ends k L
    ends_after k l L later ends = record {
      kept = λ r c.
          let over = later.covered r (in_begun k r c) in
          let end = ends.kept over.0 over.1 in
          (end.0, end.1, covers_through o end.0 over.0 r end.2 over.2);
      sound = ends.sound;
      steps = ends.steps;
    }

    searched_ends : (n : ℕ) (k : Kept) (L : List Row) → Ready n k → searched most last th m n k ≡ Ok L → Ends k L
    searched_ends zero k L ready e =
        let is = last_is k L e in ends_here zero k L ready is.0 (λ r w c result. is.1 r w c (ready.at r c) result)
    searched_ends (suc n) k L ready e =
        elim (ended_or_more k.new (Ok k.old) (followed (level most th m k.new (begun k)) (searched most last th m n)) (Ok L) e) [
          | inl c ↦ ends_here (suc n) k L ready (ap (λ ws. k.old ++ ws) c.0 ∙ append-nil k.old ∙ ok_same k.old L c.1)
              (λ r w d result. none_there r (subst (λ ws. Contains ws r) c.0 d))
          | inr more ↦
              let split = went_on (level most th m k.new (begun k)) (searched most last th m n) L more in
              ends_after k split.0 L (level_done most th m k.new (begun k) split.0 split.1).0
              (searched_ends n split.0 L (ready_next n k split.0 ready split.1) split.2)
        ]

    abbrev first_kept : Row → Kept
    first_kept start = record { old = []; new = start ∷ [] }

    one_row : (start r : Row) → Contains (start ∷ []) r → start ≡ r
    one_row start r c = elim (member_cases start r [] c) [ inl e ↦ e | inr n ↦ absurd (none_there r n) ]

    pub searched_closed : (n : ℕ) (start : Row) (L : List Row) → Sound start → At n start → searched most last th m n (first_kept start) ≡ Ok L → IsClosed o Sound (RowResult th m) start L
    searched_closed n start L is at e =
        let ends : Ends (first_kept start) L = searched_ends n (first_kept start) L (record {
          sound = λ r c. subst Sound (one_row start r c) is;
          tried = λ r w c result. absurd (none_there r c);
          at = λ r c. subst (At n) (one_row start r c) at;
        }) e in
        record { begins = ends.kept start (here start []); sound = ends.sound; steps = ends.steps }

  -- ## None covers another

  abbrev Apart : Row → Row → Type 0
  Apart a b = (Covers o a b → ⊥) × (Covers o b a → ⊥)

  abbrev AreApart : List Row → Type 0
  AreApart [] = ⊤
  AreApart (r ∷ rs) = ((x : Row) → Contains rs x → Apart r x) × AreApart rs

  filtered_apart : (p : Row → Bool) (rs : List Row) → AreApart rs → AreApart (filter p rs)
  filtered_apart p [] all = tt
  filtered_apart p (r ∷ rs) all =
      elim (p r) as (λ b. AreApart (cond b (r ∷ filter p rs) (filter p rs))) [
        | true ↦ (λ x c. all.0 x (of_filtered p rs x c).0, filtered_apart p rs all.1)
        | false ↦ filtered_apart p rs all.1
      ]

  pushed_apart : (rs : List Row) (w : Row) → AreApart rs → ((x : Row) → Contains rs x → Apart x w) → AreApart (rs ++ w ∷ [])
  pushed_apart [] w all from = (λ x c. absurd (none_there x c), tt)
  pushed_apart (r ∷ rs) w all from = (
    λ x c. elim (Contains-push_cases rs w x c) [ inl a ↦ all.0 x a | inr e ↦ subst (Apart r) e (from r (here r rs)) ],
    pushed_apart rs w all.1 (λ x c. from x (behind r x rs c)),
  )

  apart_pairs : (rs : List Row) → AreApart rs → AreUncovered o rs
  apart_pairs [] all i j d less small = absurd (let no : ⊥ = omega (arith, small) in no)
  apart_pairs (r ∷ rs) all zero zero d less small = absurd (let no : ⊥ = omega (arith, less) in no)
  apart_pairs (r ∷ rs) all zero (suc j) d less small = all.0 (get_or rs j d) (Contains-get_or rs j d (omega (arith, small)))
  apart_pairs (r ∷ rs) all (suc i) zero d less small = absurd (let no : ⊥ = omega (arith, less) in no)
  apart_pairs (r ∷ rs) all (suc i) (suc j) d less small = apart_pairs rs all.1 i j d (omega (arith, less)) (omega (arith, small))

  module _ (start : Row) (back : (w : Row) → Sound w → Covers o w start → Covers o start w)
      (last_rows : (k : Kept) (L : List Row) → last k ≡ Ok L → rows k ≡ L) where
    -- a list of rows of which none covers another, and that begins with the first row
    record IsGood (rs : List Row) : Type 0 where
      apart : AreApart rs
      others : List Row
      begins : rs ≡ start ∷ others

    record Good (k : Kept) : Type 0 where
      sound : AllSound k
      good : IsGood (rows k)

    good_placed : (w : Row) (k l : Kept) → Sound w → Good k → placed most o w k ≡ Ok l → Good l
    good_placed w k l is all e =
        elim (placed_cases most o w k l e) [
          | inl c ↦ subst Good c.1 all
          | inr c ↦
              let free : (r : Row) → Contains (rows k) r → Covers o r w → ⊥ = λ r there cover.
              let yes : is_covered o (rows k) w ≡ true = any_member (λ x. covers_row o x w) (rows k) r there (covers_complete o r w cover) in
              let isnt = c.0 in let no : ⊥ = cc in no in
              let first : Contains (rows k) start = subst (λ rs. Contains rs start) (sym all.good.begins) (here start all.good.others) in
              let stays : covers_row o w start ≡ false =
              elim (covers_row o w start) as (λ b. covers_row o w start ≡ b → b ≡ false)
              [ true ↦ λ d. absurd (free start first (back w is (covers_sound o w start d))) | false ↦ λ d. refl ] refl in
              subst Good c.1 (record {
                sound = λ r there. elim (of_kept o w k r there) [ inl old ↦ all.sound r old.0 | inr same ↦ subst Sound same is ];
                good = subst IsGood (sym (rows_placed o w k)) (record {
                  apart = pushed_apart (uncovered o w (rows k)) w (filtered_apart (λ r. not (covers_row o w r)) (rows k) all.good.apart)
                      (λ x there.
                      let from = of_filtered (λ r. not (covers_row o w r)) (rows k) x there in
                      (free x from.0, λ cover. let yes : covers_row o w x ≡ true = covers_complete o w x cover in let passes = from.1 in let no : ⊥ = cc in no));
                  others = uncovered o w all.good.others ++ w ∷ [];
                  begins = ap (λ rs. uncovered o w rs ++ w ∷ []) all.good.begins
                      ∙ ap (λ b. cond (not b) (start ∷ uncovered o w all.good.others) (uncovered o w all.good.others) ++ w ∷ []) stays;
                });
              })
        ]

    level_good : (k l : Kept) → Good k → level most th m k.new (begun k) ≡ Ok l → Good l
    level_good k l all e =
        level_keeps most th m Good Sound good_placed k.new (λ r c w result. sound_result r w (all.sound r (Contains-append_right k.old k.new r c)) result)
        (begun k) l (record { sound = λ r c. all.sound r (of_begun k r c); good = subst IsGood (sym (append-nil (rows k))) all.good }) e

    searched_is_good : (n : ℕ) (k : Kept) (L : List Row) → Good k → searched most last th m n k ≡ Ok L → IsGood L
    searched_is_good zero k L all e = subst IsGood (last_rows k L e) all.good
    searched_is_good (suc n) k L all e =
        elim (ended_or_more k.new (Ok k.old) (followed (level most th m k.new (begun k)) (searched most last th m n)) (Ok L) e) [
          | inl c ↦ subst IsGood (ap (λ ws. k.old ++ ws) c.0 ∙ append-nil k.old ∙ ok_same k.old L c.1) all.good
          | inr more ↦
              let split = went_on (level most th m k.new (begun k)) (searched most last th m n) L more in
              searched_is_good n split.0 L (level_good k split.0 all split.1) split.2
        ]

    pub searched_good : (n : ℕ) (L : List Row) → Sound start → searched most last th m n (record { old = []; new = start ∷ [] }) ≡ Ok L →
        AreUncovered o L × ((others : List Row) × (L ≡ start ∷ others))
    searched_good n L is e =
        let good : IsGood L = searched_is_good n (record { old = []; new = start ∷ [] }) L (record {
          sound = λ r c. elim (member_cases start r [] c) [ inl s ↦ subst Sound s is | inr none ↦ absurd (none_there r none) ];
          good = record { apart = (λ x c. absurd (none_there x c), tt); others = []; begins = refl };
        }) e in
        (apart_pairs L good.apart, (good.others, good.begins))

-- ## The variants of a first row

module _ (most : ℕ) (th : Theory) (m : ℕ) (Sound : Row → Type 0) (sound_result : (r w : Row) → Sound r → RowResult th m r w → Sound w) where
  all_rows : (k : Kept) (L : List Row) → Gives (Ok (rows k)) L → rows k ≡ L
  all_rows k L e = ok_same (rows k) L e

  -- where what comes of a row has fewer own parts, no level is left out
  module _ (fewer : (r w : Row) → Sound r → RowResult th m r w → length (own_parts m w) < length (own_parts m r)) where
    abbrev Left : ℕ → Row → Type 0
    Left n r = length (own_parts m r) ≤ n

    left_next : (n : ℕ) (r w : Row) → Sound r → Left (suc n) r → RowResult th m r w → Left n w
    left_next n r w is left result = let less = fewer r w is result in omega (arith, less, left)

    none_left : (k : Kept) (L : List Row) → Gives (Ok (rows k)) L → (rows k ≡ L) × ((r w : Row) → Contains k.new r → Left zero r → RowResult th m r w → ⊥)
    none_left k L e = (ok_same (rows k) L e, λ r w c left result. no_part (own_parts m r) left result.0 result.1)
      where
        no_part : {X : Type 0} (xs : List X) → length xs ≤ 0 → (x : X) → Contains xs x → ⊥
        no_part [] small x c = none_there x c
        no_part (y ∷ ys) small x c = let no : ⊥ = omega (arith, small) in no

    pub variants_closed : (start : Row) (L : List Row) → Sound start → variant_rows most th m start ≡ Ok L → IsClosed th.sig.sorts Sound (RowResult th m) start L
    variants_closed start L is e =
        searched_closed most (λ k. Ok (rows k)) th m Sound sound_result Left left_next none_left (length (own_parts m start)) start L is (omega arith) e

  pub variants_good : (start : Row) → ((w : Row) → Sound w → Covers th.sig.sorts w start → Covers th.sig.sorts start w) → (L : List Row) → Sound start →
      variant_rows most th m start ≡ Ok L → AreUncovered th.sig.sorts L × ((others : List Row) × (L ≡ start ∷ others))
  variants_good start back L is e =
      searched_good most (λ k. Ok (rows k)) th m Sound sound_result start back all_rows (length (own_parts m start)) L is e
