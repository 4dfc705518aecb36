-- Parts that can be met one after another, in any order, have a choice, and the other way round.
use Rattle.std.specs.Prelude.{nat_eq}
use Rattle.std.proofs.Common.{◌≡◌, true, false, cond, ℕ, zero, suc, ◌+◌, ◌<◌, ◌≤◌, ⊎_elim, List, [], ◌∷◌, ◌++◌, None, Some, take, drop, slice_get, Contains, refl, ap, sym, ◌∙◌, subst, arith, IfSome}
use Rattle.std.proofs.lemmas.Bool.{eq-eqb, eqb-true, eqb-false, cases_lt}
use Rattle.std.proofs.lemmas.Option.{same_Some, none-some}
use Rattle.std.proofs.lemmas.List.Elements.{Contains-append_left, Contains-append_right, Contains-append_cases}
use Rattle.npa_sorts.specs.Subsorts.{Subsorts}
use Rattle.npa_term.specs.declared.term.Var.{Var as Variable}
use Rattle.npa_term.specs.declared.term.Term.{Term}
use Rattle.npa_match.specs.Matching.{HasMatch, HasMatcher, Matches, IsMatcher}
use Rattle.npa_match.specs.Branches.{branches, first_of}
use Rattle.npa_match.proofs.Answered.{first_answered, none_answered}
use Rattle.npa_model.specs.declared.aim.Part.{Part}
use Rattle.npa_model.specs.declared.run.Instance.{Instance}
use Rattle.npa_model.specs.State.{State}
use Rattle.npa_replay.specs.Choices.{taken, AreFree, IsTarget, target_pairs, Can, done, next, with_part, picked}
use Rattle.npa_replay.specs.Groups.{IsChoice, HasChoice}
use Rattle.npa_list.specs.Different.{AreDifferent}
use Rattle.npa_replay.proofs.Choosing.{occurs_in, occurs_first, matches_among, can_match, can_first}
use Rattle.npa_replay.proofs.Members.{contains_cases, contains_head, contains_tail}

no_empty : {X : Type 0} (x : X) → Contains [] x → ⊥
no_empty x h = omega (arith, h.1)

-- what matches pairs and others matches all
matches_both : (o : Subsorts) (ps qs : List (Term × Term)) (s : List (Variable × Term)) → Matches o ps s → Matches o qs s → Matches o (ps ++ qs) s
matches_both o ps qs s a b = record {
  sorts = λ v h.
      let x = occurs_in (ps ++ qs) v h in
      ⊎_elim (λ l. a.sorts v (occurs_first ps x.pair v l x.occurs)) (λ r. b.sorts v (occurs_first qs x.pair v r x.occurs)) (Contains-append_cases ps qs x.pair x.there);
  equal = λ t u h. ⊎_elim (λ l. a.equal t u l) (λ r. b.equal t u r) (Contains-append_cases ps qs (t, u) h);
}

-- what can be matched has a matcher
pub has_matcher : (o : Subsorts) (pairs : List (Term × Term)) → HasMatch o pairs → HasMatcher o pairs
has_matcher o pairs m =
    elim (first_of (branches o pairs)) as (λ x. first_of (branches o pairs) ≡ x → IfSome x (IsMatcher o pairs) → HasMatcher o pairs) [
      | Some s ↦ λ e is. record { by_ = s; is = is }
      | None ↦ λ e is. absurd (none_answered o pairs e m.by_ m.matches)
    ] refl (first_answered o pairs)

-- the numbers from a on, so many
abbrev pub numbers : ℕ → ℕ → List ℕ
numbers a zero = []
numbers a (suc n) = a ∷ numbers (suc a) n

numbers_within : (a n i : ℕ) → Contains (numbers a n) i → (a ≤ i) × (i < a + n)
numbers_within a zero i h = absurd (no_empty i h)
numbers_within a (suc n) i h = ⊎_elim
    (λ (here : a ≡ i). (omega (arith, here), omega (arith, here)))
    (λ later. let x = numbers_within (suc a) n i later in (omega (arith, x.0), omega (arith, x.1)))
    (contains_cases a (numbers (suc a) n) i h)

within_numbers : (a n i : ℕ) → a ≤ i → i < a + n → Contains (numbers a n) i
within_numbers a zero i l m = absurd (omega (arith, l, m))
within_numbers a (suc n) i l m =
    elim (nat_eq a i) as (λ b. nat_eq a i ≡ b → Contains (a ∷ numbers (suc a) n) i) [
      | true ↦ λ e. subst (λ j. Contains (a ∷ numbers (suc a) n) j) (eqb-true a i e) (contains_head a (numbers (suc a) n))
      | false ↦ λ e. contains_tail a (numbers (suc a) n) i (within_numbers (suc a) n i (past e) (omega (arith, m)))
    ] refl
  where
    past : nat_eq a i ≡ false → suc a ≤ i
    past e = ⊎_elim (λ (x : a < i). omega (arith, x)) (λ (x : i ≤ a). let same : a ≡ i = omega (arith, l, x) in absurd (eqb-false a i e same)) (cases_lt a i)

numbers_different : (a n : ℕ) → AreDifferent (numbers a n)
numbers_different a zero = tt
numbers_different a (suc n) = (λ h. let x = numbers_within (suc a) n a h in omega (arith, x.0), numbers_different (suc a) n)

front_from : (ps : List Part) (a n : ℕ) → with_part (slice_get ps a) (take n (drop (suc a) ps)) ≡ take (suc n) (drop a ps)
front_from [] zero zero = refl
front_from [] zero (suc n) = refl
front_from [] (suc a) zero = refl
front_from [] (suc a) (suc n) = refl
front_from (p ∷ ps) zero n = refl
front_from (p ∷ ps) (suc a) n = front_from ps a n

picked_numbers : (ps : List Part) (a n : ℕ) → picked ps (numbers a n) ≡ take n (drop a ps)
picked_numbers ps a zero = refl
picked_numbers ps a (suc n) = ap (λ qs. with_part (slice_get ps a) qs) (picked_numbers ps (suc a) n) ∙ front_from ps a n

module _ (instances : List Instance) (state : State) (o : Subsorts) (parts : List Part) where
  abbrev CanPick : List ℕ → List ℕ → List (Term × Term) → Type 0
  CanPick ns used pairs = Can instances state (HasMatch o) (picked parts ns) used pairs

  -- parts of which there is a choice can be met in any order
  pub to_can : (B : ℕ → Type 0) (f : ℕ → ℕ) (s : List (Variable × Term)) → IsChoice instances state o parts B f s →
      (ns : List ℕ) → AreDifferent ns → ((i : ℕ) → Contains ns i → B i) → (used : List ℕ) (pairs : List (Term × Term)) →
      ((i : ℕ) (p : Part) → slice_get parts i ≡ Some p → Contains ns i → AreFree used (taken p (f i))) → Matches o pairs s → CanPick ns used pairs
  to_can B f s c [] different within used pairs free m = done used pairs (record { by_ = s; matches = m })
  to_can B f s c (k ∷ ks) different within used pairs free m =
      elim (slice_get parts k) as (λ x. slice_get parts k ≡ x → Can instances state (HasMatch o) (with_part x (picked parts ks)) used pairs) [
        | None ↦ λ e. to_can B f s c ks different.1 (λ i h. within i (contains_tail k ks i h)) used pairs (λ i p at h. free i p at (contains_tail k ks i h)) m
        | Some p ↦ λ e. next p (picked parts ks) used pairs (f k) (c.targets k p e (within k (contains_head k ks))) (free k p e (contains_head k ks))
            (to_can B f s c ks different.1 (λ i h. within i (contains_tail k ks i h)) (used ++ taken p (f k)) (pairs ++ target_pairs instances state p (f k))
            (λ i q at h. record {
              apart = λ n g w. ⊎_elim
                  (λ l. (free i q at (contains_tail k ks i h)).apart n g l)
                  (λ r. (c.apart k i p q e at (within k (contains_head k ks)) (within i (contains_tail k ks i h)) (λ same. different.0 (subst (λ j. Contains ks j) (sym same) h))).apart n g r)
                  (Contains-append_cases used (taken p (f k)) n w);
            })
            (matches_both o pairs (target_pairs instances state p (f k)) s m (c.matches k p e (within k (contains_head k ks)))))
      ] refl

  -- a choice beside what is used and these pairs
  pub record Chosen (ns : List ℕ) (used : List ℕ) (pairs : List (Term × Term)) : Type 0 where
    pub at : ℕ → ℕ
    pub by_ : List (Variable × Term)
    pub choice : IsChoice instances state o parts (λ i. Contains ns i) at by_
    pub free : (i : ℕ) (p : Part) → slice_get parts i ≡ Some p → Contains ns i → AreFree used (taken p (at i))
    pub matched : Matches o pairs by_

  module _ (k : ℕ) (ks : List ℕ) (new : Contains ks k → ⊥) (used : List ℕ) (pairs : List (Term × Term)) where
    chosen_none : slice_get parts k ≡ None → Chosen ks used pairs → Chosen (k ∷ ks) used pairs
    chosen_none none x = record {
      at = x.at;
      by_ = x.by_;
      choice = record {
        targets = λ i p at h. x.choice.targets i p at (later i p at h);
        apart = λ i j p q at there h g. x.choice.apart i j p q at there (later i p at h) (later j q there g);
        matches = λ i p at h. x.choice.matches i p at (later i p at h);
      };
      free = λ i p at h. x.free i p at (later i p at h);
      matched = x.matched;
    }
      where
        later : (i : ℕ) (p : Part) → slice_get parts i ≡ Some p → Contains (k ∷ ks) i → Contains ks i
        later i p at h = ⊎_elim (λ (e : k ≡ i). absurd (none-some p (sym none ∙ ap (slice_get parts) e ∙ at))) (λ l. l) (contains_cases k ks i h)

    module _ (p : Part) (at_k : slice_get parts k ≡ Some p) (n : ℕ) (target : IsTarget instances state p n) (free : AreFree used (taken p n))
        (x : Chosen ks (used ++ taken p n) (pairs ++ target_pairs instances state p n)) where
      abbrev here_or : ℕ → ℕ
      here_or i = cond (nat_eq k i) n (x.at i)

      at_here : (i : ℕ) → k ≡ i → n ≡ here_or i
      at_here i e = sym (ap (λ c. cond c n (x.at i)) (eq-eqb k i e))

      at_later : (i : ℕ) → Contains ks i → x.at i ≡ here_or i
      at_later i h =
          elim (nat_eq k i) as (λ b. nat_eq k i ≡ b → x.at i ≡ cond b n (x.at i)) [
            | true ↦ λ e. absurd (new (subst (λ j. Contains ks j) (sym (eqb-true k i e)) h))
            | false ↦ λ e. refl
          ] refl

      same_part : (i : ℕ) (q : Part) → slice_get parts i ≡ Some q → k ≡ i → p ≡ q
      same_part i q at e = same_Some p q (sym at_k ∙ ap (slice_get parts) e ∙ at)

      -- what holds of p at n holds at the place i where it is k
      moved : (P : Part → ℕ → Type 0) (i : ℕ) (q : Part) → slice_get parts i ≡ Some q → k ≡ i → P p n → P q (here_or i)
      moved P i q at e h = subst (λ m. P q m) (at_here i e) (subst (λ (r : Part). P r n) (same_part i q at e) h)

      free_here : (j : ℕ) (q : Part) → slice_get parts j ≡ Some q → Contains ks j → AreFree (taken p n) (taken q (x.at j))
      free_here j q at h = record { apart = λ m g w. (x.free j q at h).apart m g (Contains-append_right used (taken p n) m w) }

      turned : (ms ns : List ℕ) → AreFree ms ns → AreFree ns ms
      turned ms ns f = record { apart = λ m g w. f.apart m w g }

      apart_both : (i j : ℕ) (q r : Part) → slice_get parts i ≡ Some q → slice_get parts j ≡ Some r → Contains (k ∷ ks) i → Contains (k ∷ ks) j → (i ≡ j → ⊥) → AreFree (taken q (here_or i)) (taken r (here_or j))
      apart_both i j q r at there h g other = ⊎_elim
          (λ (e : k ≡ i). ⊎_elim
          (λ (f : k ≡ j). absurd (other (sym e ∙ f)))
          (λ m. moved (λ s l. AreFree (taken s l) (taken r (here_or j))) i q at e (subst (λ l. AreFree (taken p n) (taken r l)) (at_later j m) (free_here j r there m)))
          (contains_cases k ks j g))
          (λ l. ⊎_elim
          (λ (f : k ≡ j). moved (λ s m. AreFree (taken q (here_or i)) (taken s m)) j r there f (subst (λ m. AreFree (taken q m) (taken p n)) (at_later i l) (turned (taken p n) (taken q (x.at i)) (free_here i q at l))))
          (λ m. subst (λ a. AreFree (taken q a) (taken r (here_or j))) (at_later i l) (subst (λ b. AreFree (taken q (x.at i)) (taken r b)) (at_later j m) (x.choice.apart i j q r at there l m other)))
          (contains_cases k ks j g))
          (contains_cases k ks i h)

      chosen_some : Chosen (k ∷ ks) used pairs
      chosen_some = record {
        at = here_or;
        by_ = x.by_;
        choice = record {
          targets = λ i q at h. ⊎_elim
              (λ e. moved (λ s m. IsTarget instances state s m) i q at e target)
              (λ l. subst (λ m. IsTarget instances state q m) (at_later i l) (x.choice.targets i q at l))
              (contains_cases k ks i h);
          apart = apart_both;
          matches = λ i q at h. ⊎_elim
              (λ e. moved (λ s m. Matches o (target_pairs instances state s m) x.by_) i q at e
              (matches_among o (target_pairs instances state p n) (pairs ++ target_pairs instances state p n) x.by_ (λ r g. Contains-append_right pairs (target_pairs instances state p n) r g) x.matched))
              (λ l. subst (λ m. Matches o (target_pairs instances state q m) x.by_) (at_later i l) (x.choice.matches i q at l))
              (contains_cases k ks i h);
        };
        free = λ i q at h. ⊎_elim
            (λ e. moved (λ s m. AreFree used (taken s m)) i q at e free)
            (λ l. subst (λ m. AreFree used (taken q m)) (at_later i l) (record { apart = λ m g w. (x.free i q at l).apart m g (Contains-append_left used (taken p n) m w) }))
            (contains_cases k ks i h);
        matched = matches_among o pairs (pairs ++ target_pairs instances state p n) x.by_ (λ r g. Contains-append_left pairs (target_pairs instances state p n) r g) x.matched;
      }

  -- parts that can be met have a choice
  pub from_can : (ns : List ℕ) → AreDifferent ns → (used : List ℕ) (pairs : List (Term × Term)) → CanPick ns used pairs → Chosen ns used pairs
  from_can [] different used pairs c =
      let m = can_match o instances state c in
      record {
        at = λ i. 0;
        by_ = m.by_;
        choice = record { targets = λ i p at h. absurd (no_empty i h); apart = λ i j p q at there h g. absurd (no_empty i h); matches = λ i p at h. absurd (no_empty i h) };
        free = λ i p at h. absurd (no_empty i h);
        matched = m.matches;
      }
  from_can (k ∷ ks) different used pairs c =
      elim (slice_get parts k) as (λ x. slice_get parts k ≡ x → Can instances state (HasMatch o) (with_part x (picked parts ks)) used pairs → Chosen (k ∷ ks) used pairs) [
        | None ↦ λ e d. chosen_none k ks different.0 used pairs e (from_can ks different.1 used pairs d)
        | Some p ↦ λ e d.
            let f = can_first o instances state d p (picked parts ks) refl in
            chosen_some k ks different.0 used pairs p e f.number f.target f.free (from_can ks different.1 (used ++ taken p f.number) (pairs ++ target_pairs instances state p f.number) f.later)
      ] refl c

  -- the order of the parts makes no difference
  pub reordered : (ns ms : List ℕ) → AreDifferent ns → AreDifferent ms → ((i : ℕ) → Contains ms i → Contains ns i) → (used : List ℕ) (pairs : List (Term × Term)) → CanPick ns used pairs → CanPick ms used pairs
  reordered ns ms different other among used pairs c =
      let x = from_can ns different used pairs c in
      to_can (λ i. Contains ns i) x.at x.by_ x.choice ms other among used pairs (λ i p at h. x.free i p at (among i h)) x.matched

  free_of_none : (ns : List ℕ) → AreFree [] ns
  free_of_none ns = record { apart = λ n h w. no_empty n w }

  -- with nothing used yet
  pub chosen_can : (B : ℕ → Type 0) → HasChoice instances state o parts B → (ns : List ℕ) → AreDifferent ns → ((i : ℕ) → Contains ns i → B i) → CanPick ns [] []
  chosen_can B c ns different within =
      to_can B c.at c.by_ c.is ns different within [] [] (λ i p at h. free_of_none (taken p (c.at i)))
      (record { sorts = λ v h. absurd (no_empty v h); equal = λ t u h. absurd (no_empty (t, u) h) })

  -- the first so many parts
  pub front_choice : (n : ℕ) → Can instances state (HasMatch o) (take n parts) [] [] → HasChoice instances state o parts (λ i. i < n)
  front_choice n c =
      let x = from_can (numbers 0 n) (numbers_different 0 n) [] [] (subst (λ (ps : List Part). Can instances state (HasMatch o) ps [] []) (sym (picked_numbers parts 0 n)) c) in
      record {
        at = x.at;
        by_ = x.by_;
        is = record {
          targets = λ i p at h. x.choice.targets i p at (within_numbers 0 n i (omega arith) (omega (arith, h)));
          apart = λ i j p q at there h g. x.choice.apart i j p q at there (within_numbers 0 n i (omega arith) (omega (arith, h))) (within_numbers 0 n j (omega arith) (omega (arith, g)));
          matches = λ i p at h. x.choice.matches i p at (within_numbers 0 n i (omega arith) (omega (arith, h)));
        };
      }

  pub choice_front : (n : ℕ) → HasChoice instances state o parts (λ i. i < n) → Can instances state (HasMatch o) (take n parts) [] []
  choice_front n c = subst (λ (ps : List Part). Can instances state (HasMatch o) ps [] []) (picked_numbers parts 0 n)
      (chosen_can (λ i. i < n) c (numbers 0 n) (numbers_different 0 n) (λ i h. let x = numbers_within 0 n i h in omega (arith, x.1)))

-- what can be met so that the pairs can be matched has a matcher
pub can_leaf : {instances : List Instance} {state : State} {leaf to : List (Term × Term) → Type 0} → ((pairs : List (Term × Term)) → leaf pairs → to pairs) →
    {ps : List Part} {used : List ℕ} {pairs : List (Term × Term)} → Can instances state leaf ps used pairs → Can instances state to ps used pairs
can_leaf g (done used pairs m) = done used pairs (g pairs m)
can_leaf g (next p parts used pairs n t f c) = next p parts used pairs n t f (can_leaf g c)
