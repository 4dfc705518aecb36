-- Different parts take different instances: where more parts than there are of some targets have no
-- others, they can't be met.
use Rattle.std.proofs.lemmas.Bool.{cases_lt}
use Rattle.std.proofs.Common.{◌≡◌, ℕ, zero, suc, ◌+◌, ◌<◌, ◌≤◌, ⊎_elim, List, [], ◌∷◌, Some, map, refl, ap, sym, ◌∙◌, subst, length, get_or, slice_get, slice_index, Contains, arith}
use Rattle.std.proofs.lemmas.List.Elements.{Contains-get_or}
use Rattle.std.proofs.lemmas.Option.{same_Some, slice_get-get_or}
use Rattle.npa_sorts.specs.Subsorts.{Subsorts}
use Rattle.npa_model.specs.declared.aim.Part.{Part}
use Rattle.npa_model.specs.declared.run.Instance.{Instance}
use Rattle.npa_model.specs.State.{State}
use Rattle.npa_match.specs.Matching.{HasMatch}
use Rattle.npa_replay.specs.Choices.{taken, Can, AreAllCandidates, picked}
use Rattle.npa_list.specs.Different.{AreDifferent}
use Rattle.npa_replay.proofs.Choosing.{same_member, candidates_at}
use Rattle.npa_replay.proofs.Members.{contains_cases, contains_head, contains_tail, get_same}
use Rattle.npa_replay.proofs.Removing.{without, without_length, without_keeps}
use Rattle.npa_replay.proofs.Picking.{Chosen, from_can}

no_empty : {X : Type 0} (x : X) → Contains [] x → ⊥
no_empty x h = omega (arith, h.1)

-- different numbers among others are no more than those
pigeons : (xs ys : List ℕ) → AreDifferent xs → ((x : ℕ) → Contains xs x → Contains ys x) → length xs ≤ length ys
pigeons [] ys different among = omega arith
pigeons (x ∷ xs) ys different among =
    let h = among x (contains_head x xs) in
    let at : slice_index ys h.0 ≡ x = same_member ys h.0 x h.1 h.2 in
    let size = without_length ys h.0 h.1 in
    let rest = pigeons xs (without ys h.0) different.1 (λ y g. without_keeps ys h.0 y h.1 (among y (contains_tail x xs y g)) (λ same. different.0 (subst (λ z. Contains xs z) (sym same ∙ at) g))) in
    omega (arith, size, rest)

module _ (f : ℕ → ℕ) where
  map_length : (xs : List ℕ) → length (map f xs) ≡ length xs
  map_length [] = refl
  map_length (x ∷ xs) = ap (λ m. suc m) (map_length xs)

  map_from : (xs : List ℕ) (y : ℕ) → Contains (map f xs) y → (x : ℕ) × Contains xs x × (f x ≡ y)
  map_from [] y h = absurd (no_empty y h)
  map_from (x ∷ xs) y h = ⊎_elim
      (λ (here : f x ≡ y). (x, contains_head x xs, here))
      (λ later. let z = map_from xs y later in (z.0, contains_tail x xs z.0 z.1, z.2))
      (contains_cases (f x) (map f xs) y h)

  map_different : (xs : List ℕ) → AreDifferent xs → ((i j : ℕ) → Contains xs i → Contains xs j → (i ≡ j → ⊥) → f i ≡ f j → ⊥) → AreDifferent (map f xs)
  map_different [] different apart = tt
  map_different (x ∷ xs) different apart = (
    (λ h. let z = map_from xs (f x) h in apart z.0 x (contains_tail x xs z.0 z.1) (contains_head x xs) (λ same. different.0 (subst (λ y. Contains xs y) same z.1)) z.2),
    map_different xs different.1 (λ i j g h. apart i j (contains_tail x xs i g) (contains_tail x xs j h)),
  )

different_index : (ns : List ℕ) (a b : ℕ) → AreDifferent ns → a < b → b < length ns → slice_index ns a ≡ slice_index ns b → ⊥
different_index [] a b d l m e = omega (arith, m)
different_index (n ∷ ns) a zero d l m e = omega (arith, l)
different_index (n ∷ ns) zero (suc b) d l m e = d.0 (subst (λ x. Contains ns x) (sym e) (Contains-get_or ns b 0 (omega (arith, m))))
different_index (n ∷ ns) (suc a) (suc b) d l m e = different_index ns a b d.1 (omega (arith, l)) (omega (arith, m)) e

module _ (parts : List Part) (candidates : List (List ℕ)) (places room : List ℕ) where
  -- a part that takes its target, and has no candidate but these
  pub record IsBound (i : ℕ) : Type 0 where
    pub takes : (p : Part) → slice_get parts i ≡ Some p → (n : ℕ) → taken p n ≡ n ∷ []
    pub among : (n : ℕ) → Contains (get_or candidates i []) n → Contains room n

  -- so many of the first parts are bound to these targets
  pub record Bound (index count : ℕ) : Type 0 where
    pub members : List ℕ
    pub size : length members ≡ count
    pub apart : AreDifferent members
    pub there : (i : ℕ) → Contains members i → (a : ℕ) × (a < index) × (slice_index places a ≡ i)
    pub each : (i : ℕ) → Contains members i → IsBound i

  pub bound_none : Bound 0 0
  bound_none = record { members = []; size = refl; apart = tt; there = λ i h. absurd (no_empty i h); each = λ i h. absurd (no_empty i h) }

module _ (o : Subsorts) (instances : List Instance) (state : State) (parts : List Part) (candidates : List (List ℕ)) (are : AreAllCandidates instances state o parts candidates)
    (places : List ℕ) (inside : (i : ℕ) → Contains places i → i < length parts) (different : AreDifferent places) (room : List ℕ) where
  abbrev IsBound_ : ℕ → Type 0
  IsBound_ = IsBound parts candidates places room

  module _ (index count : ℕ) (was : Bound parts candidates places room index count) where
    pub bound_same : Bound parts candidates places room (index + 1) count
    bound_same = record {
      members = was.members;
      size = was.size;
      apart = was.apart;
      there = λ i h. let x = was.there i h in (x.0, omega (arith, x.1), x.2);
      each = was.each;
    }

    pub bound_more : index < length places → IsBound parts candidates places room (slice_index places index) → Bound parts candidates places room (index + 1) (count + 1)
    bound_more l is = record {
      members = slice_index places index ∷ was.members;
      size = let e = was.size in omega (arith, e);
      apart = ((λ h. let x = was.there (slice_index places index) h in different_index places x.0 index different x.1 l x.2), was.apart);
      there = λ i h. ⊎_elim
          (λ (here : slice_index places index ≡ i). (index, omega arith, here))
          (λ later. let x = was.there i later in (x.0, omega (arith, x.1), x.2))
          (contains_cases (slice_index places index) was.members i h);
      each = λ i h. ⊎_elim
          (λ (here : slice_index places index ≡ i). subst (λ j. IsBound_ j) here is)
          (λ later. was.each i later)
          (contains_cases (slice_index places index) was.members i h);
    }

    module _ (within : index ≤ length places) (c : Can instances state (HasMatch o) (picked parts places) [] []) where
      x : Chosen instances state o parts places [] []
      x = from_can instances state o parts places different [] [] c

      place : (i : ℕ) → Contains was.members i → Contains places i
      place i h =
          let y = was.there i h in
          subst (λ j. Contains places j) y.2 (Contains-get_or places y.0 0 (omega (arith, y.1, within)))

      part_there : (i : ℕ) (h : Contains was.members i) → (p : Part) × (slice_get parts i ≡ Some p)
      part_there i h = some_part parts i (inside i (place i h))
        where
          some_part : (ps : List Part) (j : ℕ) → j < length ps → (p : Part) × (slice_get ps j ≡ Some p)
          some_part [] j l = absurd (omega (arith, l))
          some_part (p ∷ ps) zero l = (p, refl)
          some_part (p ∷ ps) (suc j) l = some_part ps j (omega (arith, l))

      -- the targets that they take are different, and among these
      targets_apart : (i j : ℕ) → Contains was.members i → Contains was.members j → (i ≡ j → ⊥) → x.at i ≡ x.at j → ⊥
      targets_apart i j g h other same =
          let p = part_there i g in
          let q = part_there j h in
          let free = x.choice.apart i j p.0 q.0 p.1 q.1 (place i g) (place j h) other in
          free.apart (x.at i)
          (subst (λ ns. Contains ns (x.at i)) (sym ((was.each j h).takes q.0 q.1 (x.at j))) (subst (λ n. Contains (n ∷ []) (x.at i)) same (contains_head (x.at i) [])))
          (subst (λ ns. Contains ns (x.at i)) (sym ((was.each i g).takes p.0 p.1 (x.at i))) (contains_head (x.at i) []))

      target_among : (i : ℕ) → Contains was.members i → Contains room (x.at i)
      target_among i h =
          let p = part_there i h in
          let l = inside i (place i h) in
          let ms = get_or candidates i [] in
          let few : i < length candidates = omega (arith, l, are.even) in
          let good = candidates_at o instances state parts candidates are i l p.0 p.1 ms (get_same candidates i [] ms few) in
          let y = good.every (x.at i) (x.choice.targets i p.0 p.1 (place i h)) (record { by_ = x.by_; matches = x.choice.matches i p.0 p.1 (place i h) }) in
          let takes = (was.each i h).takes p.0 p.1 in
          let same : y.0 ≡ x.at i = ap (λ ns. slice_index ns 0) (sym (takes y.0) ∙ y.2 ∙ takes (x.at i)) in
          subst (λ n. Contains room n) same ((was.each i h).among y.0 y.1)

      few_met : length was.members ≤ length room
      few_met =
          let size = map_length x.at was.members in
          let l = pigeons (map x.at was.members) room (map_different x.at was.members was.apart targets_apart)
          (λ n g. let z = map_from x.at was.members n g in subst (λ m. Contains room m) z.2 (target_among z.0 z.1)) in
          omega (arith, size, l)

    -- more parts are bound to them than there are
    pub crowded : index ≤ length places → length room < count → Can instances state (HasMatch o) (picked parts places) [] [] → ⊥
    crowded within many c = let l = few_met within c in omega (arith, l, many, was.size)

-- the first so many numbers are among others
pub record AmongBelow (numbers others : List ℕ) (n : ℕ) : Type 0 where
  pub each : (i : ℕ) → i < n → Contains others (slice_index numbers i)

module _ (numbers others : List ℕ) where
  pub among_none : AmongBelow numbers others 0
  among_none = record { each = λ i l. let none : ⊥ = omega (arith, l) in absurd none }

  pub among_more : (n : ℕ) → AmongBelow numbers others n → Contains others (slice_index numbers n) → AmongBelow numbers others (n + 1)
  among_more n was here = record {
    each = λ i l. ⊎_elim
        (λ (before : i < n). was.each i before)
        (λ (last : n ≤ i). let same : n ≡ i = omega (arith, l, last) in subst (λ j. Contains others (slice_index numbers j)) same here)
        (cases_lt i n);
  }

  pub among_all : (n : ℕ) → AmongBelow numbers others n → length numbers ≤ n → (x : ℕ) → Contains numbers x → Contains others x
  among_all n was past x h = subst (λ y. Contains others y) (same_member numbers h.0 x h.1 h.2) (was.each h.0 (omega (arith, past, h.1)))

-- a part of which a test says that it takes its target and has these candidates alone
pub is_bound_at : (parts : List Part) (candidates : List (List ℕ)) (places room : List ℕ) (k i : ℕ) → k ≡ slice_index places i → (q : Part) → k < length parts → k < length candidates →
    (ms ns : List ℕ) → ms ≡ get_or candidates k ms → ns ≡ ms → ((n : ℕ) → taken (get_or parts k q) n ≡ n ∷ []) → ((n : ℕ) → Contains ns n → Contains room n) → IsBound parts candidates places room (slice_index places i)
is_bound_at parts candidates places room k i k_is q l few ms ns ms_is same takes among = subst (λ j. IsBound parts candidates places room j) k_is (record {
  takes = λ p at n. subst (λ (r : Part). taken r n ≡ n ∷ []) (same_Some (get_or parts k q) p (sym (slice_get-get_or parts k q l) ∙ at)) (takes n);
  among = λ n h. among n (subst (λ (xs : List ℕ). Contains xs n) (get_same candidates k [] ms few ∙ sym ms_is ∙ sym same) h);
})
