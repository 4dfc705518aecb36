-- The search for targets of the parts at some places, one after another.
use Rattle.std.proofs.Common.{◌≡◌, ℕ, suc, ◌+◌, ◌<◌, ◌≤◌, ⊎_elim, List, [], ◌∷◌, ◌++◌, Option, None, Some, refl, ap, sym, ◌∙◌, subst, take, drop, length, get_or, slice_get, slice_index, Contains, arith}
use Rattle.std.proofs.lemmas.Bool.{cases_lt}
use Rattle.std.proofs.lemmas.List.Elements.{Contains-get_or}
use Rattle.std.proofs.lemmas.Option.{same_Some, slice_get-get_or}
use Rattle.npa_sorts.specs.Subsorts.{Subsorts}
use Rattle.npa_term.specs.declared.term.Term.{Term}
use Rattle.npa_model.specs.declared.aim.Part.{Part}
use Rattle.npa_model.specs.declared.run.Instance.{Instance}
use Rattle.npa_model.specs.State.{State}
use Rattle.npa_match.specs.Matching.{HasMatch}
use Rattle.npa_replay.specs.Choices.{taken, AreFree, target_pairs, Can, done, next, IsOpen, AreCandidates, AreAllCandidates, with_part, picked}
use Rattle.npa_replay.proofs.Choosing.{same_member, can_match, can_take, can_first, open_candidate, candidates_at}
use Rattle.npa_list.specs.Different.{AreDifferent}
use Rattle.npa_replay.proofs.Members.{contains_cases, contains_head, contains_tail}
use Rattle.npa_replay.proofs.Picking.{reordered}
use Rattle.npa_replay.proofs.Removing.{without, without_in, without_or, without_different, without_not, without_is}

no_empty : {X : Type 0} (x : X) → Contains [] x → ⊥
no_empty x h = omega (arith, h.1)

pub empty_of : (ns : List ℕ) → length ns ≡ 0 → ns ≡ []
empty_of [] e = refl
empty_of (n ∷ ns) e = absurd (omega (arith, e))

-- a place is below what all places are below
pub inside_at : (places : List ℕ) (n i : ℕ) → ((j : ℕ) → Contains places j → j < n) → i < length places → slice_index places i < n
inside_at places n i inside l = inside (slice_index places i) (Contains-get_or places i 0 l)

pub inside_candidates : (places : List ℕ) (n i : ℕ) (candidates : List (List ℕ)) → ((j : ℕ) → Contains places j → j < n) → length candidates ≡ n → i < length places → slice_index places i < length candidates
inside_candidates places n i candidates inside even l = let b = inside_at places n i inside l in omega (arith, b, even)

-- a part at one of the places is among those that are picked
picked_member : (parts : List Part) (ns : List ℕ) (i : ℕ) (p : Part) → slice_get parts i ≡ Some p → Contains ns i → (m : ℕ) × (slice_get (picked parts ns) m ≡ Some p)
picked_member parts [] i p at h = absurd (no_empty i h)
picked_member parts (n ∷ ns) i p at h = ⊎_elim
    (λ (here : n ≡ i). (0, ap (λ x. slice_get (with_part x (picked parts ns)) 0) (ap (slice_get parts) here ∙ at)))
    (λ later. behind (slice_get parts n) (picked_member parts ns i p at later))
    (contains_cases n ns i h)
  where
    behind : (x : Option Part) → (m : ℕ) × (slice_get (picked parts ns) m ≡ Some p) → (m : ℕ) × (slice_get (with_part x (picked parts ns)) m ≡ Some p)
    behind None y = y
    behind (Some q) y = (suc y.0, y.1)

module _ (o : Subsorts) (instances : List Instance) (state : State) where
  -- with this target of the first part the others can't be met
  abbrev pub Fails : List Part → List ℕ → List (Term × Term) → Part → ℕ → Type 0
  Fails rest used pairs p n = AreFree used (taken p n) → Can instances state (HasMatch o) rest (used ++ taken p n) (pairs ++ target_pairs instances state p n) → ⊥

  -- the first so many targets of the part at place k were tried
  pub record Tried (parts rest : List Part) (used : List ℕ) (pairs : List (Term × Term)) (k : ℕ) (ns : List ℕ) (index : ℕ) : Type 0 where
    pub each : (p : Part) → slice_get parts k ≡ Some p → (i : ℕ) → i < index → Fails rest used pairs p (slice_index ns i)

  pub tried_none : (parts rest : List Part) (used : List ℕ) (pairs : List (Term × Term)) (k : ℕ) (ns : List ℕ) → Tried parts rest used pairs k ns 0
  tried_none parts rest used pairs k ns = record { each = λ p at i l. let none : ⊥ = omega (arith, l) in absurd none }

  module _ (parts rest : List Part) (used : List ℕ) (pairs : List (Term × Term)) (k : ℕ) (ns : List ℕ) (index : ℕ) (was : Tried parts rest used pairs k ns index) where
    tried_next : (p : Part) → slice_get parts k ≡ Some p → Fails rest used pairs p (slice_index ns index) → Tried parts rest used pairs k ns (index + 1)
    tried_next p at fails = record {
      each = λ q there i l. ⊎_elim
          (λ (before : i < index). was.each q there i before)
          (λ (last : index ≤ i).
          let same : index ≡ i = omega (arith, l, last) in
          subst (λ (r : Part). Fails rest used pairs r (slice_index ns i)) (same_Some p q (sym at ∙ there)) (subst (λ j. Fails rest used pairs p (slice_index ns j)) same fails))
          (cases_lt i index);
    }

    all_tried : (p : Part) → slice_get parts k ≡ Some p → AreCandidates instances state o p ns → length ns ≤ index → Can instances state (HasMatch o) (p ∷ rest) used pairs → ⊥
    all_tried p at are past c =
        let f = can_first o instances state c p rest refl in
        let x = open_candidate o instances state used pairs p ns are f.number f.target (record { free = f.free; matched = can_match o instances state f.later }) in
        let there : slice_index ns x.among.0 ≡ x.number = same_member ns x.among.0 x.number x.among.1 x.among.2 in
        subst (λ n. Fails rest used pairs p n) there (was.each p at x.among.0 (omega (arith, past, x.among.1))) x.open_.free
        (subst (λ (us : List ℕ). Can instances state (HasMatch o) rest (used ++ us) (pairs ++ target_pairs instances state p x.number)) (sym x.same_taken)
        (subst (λ (ps : List (Term × Term)). Can instances state (HasMatch o) rest (used ++ taken p f.number) (pairs ++ ps)) (sym x.same_pairs) f.later))

  module _ (parts : List Part) (candidates : List (List ℕ)) (are : AreAllCandidates instances state o parts candidates) (places : List ℕ) (inside : (i : ℕ) → Contains places i → i < length parts) (different : AreDifferent places) where
    abbrev pub Rest : List ℕ → List ℕ → List (Term × Term) → Type 0
    Rest ns used pairs = Can instances state (HasMatch o) (picked parts ns) used pairs

    -- none is left
    pub rest_done : (used : List ℕ) (pairs : List (Term × Term)) → places ≡ [] → HasMatch o pairs → Rest places used pairs
    rest_done used pairs e m = subst (λ (ns : List ℕ). Can instances state (HasMatch o) (picked parts ns) used pairs) (sym e) (done used pairs m)

    module _ (used : List ℕ) (pairs : List (Term × Term)) where
      -- a part none of whose candidates is open
      pub rest_closed : (j : ℕ) → j < length places → (k : ℕ) → k ≡ slice_index places j → (q : Part) (ms ns : List ℕ) → ms ≡ get_or candidates k ms → ns ≡ ms →
          ((n : ℕ) → Contains ns n → IsOpen instances state o used pairs (get_or parts k q) n → ⊥) → Rest places used pairs → ⊥
      rest_closed j m k k_is q ms ns ms_is same none c =
          let among : Contains places k = subst (λ i. Contains places i) (sym k_is) (Contains-get_or places j 0 m) in
          let within : k < length parts = inside k among in
          let there : slice_get parts k ≡ Some (get_or parts k q) = slice_get-get_or parts k q within in
          let place = picked_member parts places k (get_or parts k q) there among in
          let x = can_take o instances state c place.0 (get_or parts k q) place.1 in
          let good = subst (λ (xs : List ℕ). AreCandidates instances state o (get_or parts k q) xs) (sym same) (candidates_at o instances state parts candidates are k within (get_or parts k q) there ms ms_is) in
          let y = open_candidate o instances state used pairs (get_or parts k q) ns good x.number x.target x.open_ in
          none y.number y.among y.open_

      module _ (at : ℕ) (l : at < length places) (k : ℕ) (k_is : k ≡ slice_index places at) (others : List ℕ) (others_is : others ≡ take at places ++ drop (at + 1) places) (q : Part) (ms ns : List ℕ) (ms_is : ms ≡ get_or candidates k ms) (same : ns ≡ ms)
          (index : ℕ) (was : Tried parts (picked parts others) used pairs k ns index) where
        abbrev p_ : Part
        p_ = get_or parts k q

        among : Contains places k
        among = subst (λ i. Contains places i) (sym k_is) (Contains-get_or places at 0 l)

        within : k < length parts
        within = inside k among

        there : slice_get parts k ≡ Some p_
        there = slice_get-get_or parts k q within

        good : AreCandidates instances state o p_ ns
        good = subst (λ (xs : List ℕ). AreCandidates instances state o p_ xs) (sym same) (candidates_at o instances state parts candidates are k within p_ there ms ms_is)

        -- the part goes first
        whole : picked parts (k ∷ others) ≡ p_ ∷ picked parts others
        whole = ap (λ x. with_part x (picked parts others)) there

        others_without : others ≡ without places at
        others_without = others_is ∙ without_is places at l

        first_different : AreDifferent (k ∷ others)
        first_different = subst (λ i. AreDifferent (i ∷ others)) (sym k_is)
            (subst (λ (is : List ℕ). AreDifferent (slice_index places at ∷ is)) (sym others_without) (without_not places at different l, without_different places at different))

        first_in : (i : ℕ) → Contains (k ∷ others) i → Contains places i
        first_in i h = ⊎_elim
            (λ (here : k ≡ i). subst (λ j. Contains places j) here among)
            (λ later. without_in places at i (subst (λ (is : List ℕ). Contains is i) others_without later))
            (contains_cases k others i h)

        in_first : (i : ℕ) → Contains places i → Contains (k ∷ others) i
        in_first i h = ⊎_elim
            (λ (here : slice_index places at ≡ i). subst (λ j. Contains (k ∷ others) j) (k_is ∙ here) (contains_head k others))
            (λ later. contains_tail k others i (subst (λ (is : List ℕ). Contains is i) (sym others_without) later))
            (without_or places at i l h)

        first_of : Rest places used pairs → Can instances state (HasMatch o) (p_ ∷ picked parts others) used pairs
        first_of c = subst (λ (ps : List Part). Can instances state (HasMatch o) ps used pairs) whole
            (reordered instances state o parts places (k ∷ others) different first_different first_in used pairs c)

        of_first : Can instances state (HasMatch o) (p_ ∷ picked parts others) used pairs → Rest places used pairs
        of_first c = reordered instances state o parts (k ∷ others) places first_different different in_first used pairs
            (subst (λ (ps : List Part). Can instances state (HasMatch o) ps used pairs) (sym whole) c)

        -- all candidates were tried
        pub rest_failed : length ns ≤ index → Rest places used pairs → ⊥
        rest_failed past c = all_tried parts (picked parts others) used pairs k ns index was p_ there good past (first_of c)

        pub on_closed : (IsOpen instances state o used pairs p_ (slice_index ns index) → ⊥) → Tried parts (picked parts others) used pairs k ns (index + 1)
        on_closed closed =
            tried_next parts (picked parts others) used pairs k ns index was p_ there
            (λ free c. closed (record { free = free; matched = can_match o instances state c }))

        module _ (more_used : List ℕ) (more_pairs : List (Term × Term)) (used_is : more_used ≡ used ++ taken p_ (slice_index ns index)) (pairs_is : more_pairs ≡ pairs ++ target_pairs instances state p_ (slice_index ns index)) where
          pub on_met : index < length ns → AreFree used (taken p_ (slice_index ns index)) → Rest others more_used more_pairs → Rest places used pairs
          on_met here free c =
              of_first
              (next p_ (picked parts others) used pairs (slice_index ns index) (good.targets (slice_index ns index) (Contains-get_or ns index 0 here)) free
              (subst (λ (us : List ℕ). Rest others us (pairs ++ target_pairs instances state p_ (slice_index ns index))) used_is
              (subst (λ (ps : List (Term × Term)). Rest others more_used ps) pairs_is c)))

          pub on_missed : (Rest others more_used more_pairs → ⊥) → Tried parts (picked parts others) used pairs k ns (index + 1)
          on_missed missed =
              tried_next parts (picked parts others) used pairs k ns index was p_ there
              (λ free c. missed
              (subst (λ (us : List ℕ). Rest others us more_pairs) (sym used_is)
              (subst (λ (ps : List (Term × Term)). Rest others (used ++ taken p_ (slice_index ns index)) ps) (sym pairs_is) c)))
