-- Parts that are met one after another: what can be met at first, and each candidate.
use Rattle.std.proofs.Common.{◌≡◌, ℕ, zero, suc, ◌+◌, ◌<◌, ◌≤◌, ⊎_elim, List, [], ◌∷◌, ◌++◌, Some, refl, ap, sym, ◌∙◌, subst, take, drop, length, get_or, slice_get, slice_index, Contains, arith}
use Rattle.std.proofs.lemmas.Bool.{cases_lt}
use Rattle.std.proofs.lemmas.List.{take_all}
use Rattle.std.proofs.lemmas.List.Elements.{Contains-append_left, Contains-append_right, Contains-append_cases, Contains-push, Contains-push_cases}
use Rattle.std.proofs.lemmas.Option.{same_Some, none-some, slice_get-get_or}
use Rattle.npa_sorts.specs.Subsorts.{Subsorts}
use Rattle.npa_term.specs.declared.term.Var.{Var as Variable}
use Rattle.npa_term.specs.declared.term.Term.{Term}
use Rattle.npa_term.specs.Variables.{variables}
use Rattle.npa_match.specs.Matching.{HasMatch, HasMatcher, Matches, first_variables}
use Rattle.npa_model.specs.declared.aim.Part.{Part}
use Rattle.npa_model.specs.declared.run.Instance.{Instance}
use Rattle.npa_model.specs.State.{State}
use Rattle.npa_replay.specs.Choices.{taken, AreFree, IsTarget, target_pairs, Can, done, next, IsOpen, AreCandidates, AreAllCandidates}
use Rattle.npa_replay.proofs.Members.{all_zip_at, all_zip_length, all_zip_more, contains_cases, contains_head, contains_tail, get_same}

pub front_front : (a b : ℕ) (qs : List Part) → a ≤ b → take a (take b qs) ≡ take a qs
front_front zero b qs l = refl
front_front (suc a) zero qs l = absurd (omega (arith, l))
front_front (suc a) (suc b) [] l = refl
front_front (suc a) (suc b) (q ∷ qs) l = ap (λ rs. q ∷ rs) (front_front a b qs (omega (arith, l)))

pub same_member : (ns : List ℕ) (i n : ℕ) → i < length ns → get_or ns i n ≡ n → slice_index ns i ≡ n
same_member (m ∷ ns) zero n l e = e
same_member (m ∷ ns) (suc i) n l e = same_member ns i n (omega (arith, l)) e
same_member [] i n l e = absurd (omega (arith, l))

-- a pair in which a variable occurs
pub record OccursIn (pairs : List (Term × Term)) (v : Variable) : Type 0 where
  pub pair : Term × Term
  pub there : Contains pairs pair
  pub occurs : Contains (variables pair.0) v

pub occurs_in : (pairs : List (Term × Term)) (v : Variable) → Contains (first_variables pairs) v → OccursIn pairs v
occurs_in [] v h = absurd (omega (arith, h.1))
occurs_in (p ∷ ps) v h = ⊎_elim
    (λ here. record { pair = p; there = contains_head p ps; occurs = here })
    (λ later. let o = occurs_in ps v later in record { pair = o.pair; there = contains_tail p ps o.pair o.there; occurs = o.occurs })
    (Contains-append_cases (variables p.0) (first_variables ps) v h)

pub occurs_first : (pairs : List (Term × Term)) (p : Term × Term) (v : Variable) → Contains pairs p → Contains (variables p.0) v → Contains (first_variables pairs) v
occurs_first [] p v h o = absurd (omega (arith, h.1))
occurs_first (q ∷ qs) p v h o = ⊎_elim
    (λ (same : q ≡ p). Contains-append_left (variables q.0) (first_variables qs) v (subst (λ (r : Term × Term). Contains (variables r.0) v) (sym same) o))
    (λ later. Contains-append_right (variables q.0) (first_variables qs) v (occurs_first qs p v later o))
    (contains_cases q qs p h)

module _ (o : Subsorts) where
  -- what matches pairs matches each of them
  pub matches_among : (small big : List (Term × Term)) (s : List (Variable × Term)) → ((p : Term × Term) → Contains small p → Contains big p) → Matches o big s → Matches o small s
  matches_among small big s among m = record {
    sorts = λ v h. let x = occurs_in small v h in m.sorts v (occurs_first big x.pair v (among x.pair x.there) x.occurs);
    equal = λ t u h. m.equal t u (among (t, u) h);
  }

  pub match_among : (small big : List (Term × Term)) → ((p : Term × Term) → Contains small p → Contains big p) → HasMatch o big → HasMatch o small
  match_among small big among m = record { by_ = m.by_; matches = matches_among small big m.by_ among m.matches }

  -- a matcher matches
  pub matcher_match : (pairs : List (Term × Term)) → HasMatcher o pairs → HasMatch o pairs
  matcher_match pairs m = record { by_ = m.by_; matches = m.is.matches }

  module _ (instances : List Instance) (state : State) where
    -- where parts can be met the pairs can be matched
    pub can_match : {ps : List Part} {used : List ℕ} {pairs : List (Term × Term)} → Can instances state (HasMatch o) ps used pairs → HasMatch o pairs
    can_match (done used pairs m) = m
    can_match (next p parts used pairs n t f c) =
        match_among pairs (pairs ++ target_pairs instances state p n) (λ q h. Contains-append_left pairs (target_pairs instances state p n) q h) (can_match c)

    -- and so can the first of them
    pub can_front : {ps : List Part} {used : List ℕ} {pairs : List (Term × Term)} → Can instances state (HasMatch o) ps used pairs → (m : ℕ) → Can instances state (HasMatch o) (take m ps) used pairs
    can_front (done used pairs m) zero = done used pairs m
    can_front (done used pairs m) (suc k) = done used pairs m
    can_front (next p parts used pairs n t f c) zero = done used pairs (can_match (next p parts used pairs n t f c))
    can_front (next p parts used pairs n t f c) (suc m) = next p (take m parts) used pairs n t f (can_front c m)

    -- a target that one part takes where they are met
    pub record Takes (used : List ℕ) (pairs : List (Term × Term)) (p : Part) : Type 0 where
      pub number : ℕ
      pub target : IsTarget instances state p number
      pub open_ : IsOpen instances state o used pairs p number

    -- each part takes one that is open beforehand
    pub can_take : {ps : List Part} {used : List ℕ} {pairs : List (Term × Term)} → Can instances state (HasMatch o) ps used pairs → (j : ℕ) (p : Part) → slice_get ps j ≡ Some p → Takes used pairs p
    can_take (done used pairs m) j p at = absurd (none-some p at)
    can_take (next q parts used pairs n t f c) zero p at =
        subst (λ (r : Part). Takes used pairs r) (same_Some q p at) (record { number = n; target = t; open_ = record { free = f; matched = can_match c } })
    can_take (next q parts used pairs n t f c) (suc j) p at =
        let x = can_take c j p at in
        let more = target_pairs instances state q n in
        let own = target_pairs instances state p x.number in
        record {
          number = x.number;
          target = x.target;
          open_ = record {
            free = record { apart = λ m h was. x.open_.free.apart m h (Contains-append_left used (taken q n) m was) };
            matched = match_among (pairs ++ own) ((pairs ++ more) ++ own)
                (λ r h. ⊎_elim
                (λ here. Contains-append_left (pairs ++ more) own r (Contains-append_left pairs more r here))
                (λ there. Contains-append_right (pairs ++ more) own r there)
                (Contains-append_cases pairs own r h))
                x.open_.matched;
          };
        }

    -- the first part's target, and what is met behind it
    pub record First (leaf : List (Term × Term) → Type 0) (used : List ℕ) (pairs : List (Term × Term)) (p : Part) (rest : List Part) : Type 0 where
      pub number : ℕ
      pub target : IsTarget instances state p number
      pub free : AreFree used (taken p number)
      pub later : Can instances state leaf rest (used ++ taken p number) (pairs ++ target_pairs instances state p number)

    pub can_first : {leaf : List (Term × Term) → Type 0} {ps : List Part} {used : List ℕ} {pairs : List (Term × Term)} → Can instances state leaf ps used pairs → (p : Part) (rest : List Part) → ps ≡ p ∷ rest → First leaf used pairs p rest
    can_first (done used pairs m) p rest e = cc
    can_first {leaf = leaf} (next q parts used pairs n t f c) p rest e =
        subst (λ (r : Part). First leaf used pairs r rest) (ap (λ (xs : List Part). get_or xs 0 q) e)
        (subst (λ (rs : List Part). First leaf used pairs q rs) (ap (drop 1) e) (record { number = n; target = t; free = f; later = c }))

    -- a candidate is open where a target is
    pub record OpenCandidate (used : List ℕ) (pairs : List (Term × Term)) (p : Part) (ns : List ℕ) (n : ℕ) : Type 0 where
      pub number : ℕ
      pub among : Contains ns number
      pub same_taken : taken p number ≡ taken p n
      pub same_pairs : target_pairs instances state p number ≡ target_pairs instances state p n
      pub open_ : IsOpen instances state o used pairs p number

    pub open_candidate : (used : List ℕ) (pairs : List (Term × Term)) (p : Part) (ns : List ℕ) → AreCandidates instances state o p ns →
        (n : ℕ) → IsTarget instances state p n → IsOpen instances state o used pairs p n → OpenCandidate used pairs p ns n
    open_candidate used pairs p ns are n target opens =
        let own = target_pairs instances state p n in
        let alone = match_among own (pairs ++ own) (λ r h. Contains-append_right pairs own r h) opens.matched in
        let m = are.every n target alone in
        record {
          number = m.0;
          among = m.1;
          same_taken = m.2;
          same_pairs = m.3;
          open_ = record {
            free = subst (λ (ks : List ℕ). AreFree used ks) (sym m.2) opens.free;
            matched = subst (λ (ps : List (Term × Term)). HasMatch o (pairs ++ ps)) (sym m.3) opens.matched;
          };
        }

    -- candidates for one part more
    pub all_more : (parts : List Part) (all new : List (List ℕ)) (i : ℕ) (d : Part) (ns : List ℕ) → AreAllCandidates instances state o (take i parts) all → i < length parts →
        AreCandidates instances state o (get_or parts i d) ns → new ≡ all ++ ns ∷ [] → AreAllCandidates instances state o (take (i + 1) parts) new
    all_more parts all new i d ns are l good e =
        let p = get_or parts i d in
        let each = all_zip_more (AreCandidates instances state o) parts all i p ns l (get_same parts i d p l) are.each good in
        subst (λ (xs : List (List ℕ)). AreAllCandidates instances state o (take (i + 1) parts) xs) (sym e) (record { even = all_zip_length (AreCandidates instances state o) (take (i + 1) parts) (all ++ ns ∷ []) each; each = each })

    pub all_done : (parts : List Part) (all : List (List ℕ)) (i : ℕ) → AreAllCandidates instances state o (take i parts) all → length parts ≤ i → AreAllCandidates instances state o parts all
    all_done parts all i are l = subst (λ (ps : List Part). AreAllCandidates instances state o ps all) (take_all i parts l) are

    pub all_none : (parts : List Part) (all : List (List ℕ)) → all ≡ [] → AreAllCandidates instances state o (take 0 parts) all
    all_none parts all e = subst (λ (xs : List (List ℕ)). AreAllCandidates instances state o [] xs) (sym e) (record { even = refl; each = tt })

    pub candidates_at : (parts : List Part) (candidates : List (List ℕ)) → AreAllCandidates instances state o parts candidates →
        (k : ℕ) → k < length parts → (p : Part) → slice_get parts k ≡ Some p → (ns : List ℕ) → ns ≡ get_or candidates k ns → AreCandidates instances state o p ns
    candidates_at parts candidates are k l p at ns is =
        let first : get_or parts k p ≡ p = same_Some (get_or parts k p) p (sym (slice_get-get_or parts k p l) ∙ at) in
        subst (λ (q : Part). AreCandidates instances state o q ns) first
        (subst (λ (ms : List ℕ). AreCandidates instances state o (get_or parts k p) ms) (sym is)
        (all_zip_at (AreCandidates instances state o) parts candidates k p ns are.each l))

    -- candidates below a number, of those that a loop has gone over
    pub record FoundBelow (p : Part) (place : ℕ) (found : List ℕ) : Type 0 where
      pub targets : (n : ℕ) → Contains found n → IsTarget instances state p n
      pub every : (n : ℕ) → n < place → IsTarget instances state p n → HasMatch o (target_pairs instances state p n) → Contains found n

    pub found_none : (p : Part) (found : List ℕ) → found ≡ [] → FoundBelow p 0 found
    found_none p found e = record {
      targets = λ n h. absurd (omega (arith, (subst (λ (ns : List ℕ). Contains ns n) e h).1));
      every = λ n l. absurd (omega (arith, l));
    }

    module _ (p : Part) (place : ℕ) (found : List ℕ) (was : FoundBelow p place found) where
      pub found_more : (new : List ℕ) → new ≡ found ++ place ∷ [] → IsTarget instances state p place → FoundBelow p (place + 1) new
      found_more new e target = subst (λ (ns : List ℕ). FoundBelow p (place + 1) ns) (sym e) (record {
        targets = λ n h. ⊎_elim (λ before. was.targets n before) (λ (last : place ≡ n). subst (λ m. IsTarget instances state p m) last target) (Contains-push_cases found place n h);
        every = λ n l t m. ⊎_elim
            (λ (before : n < place). Contains-append_left found (place ∷ []) n (was.every n before t m))
            (λ (last : place ≤ n). let same : place ≡ n = omega (arith, l, last) in subst (λ k. Contains (found ++ place ∷ []) k) same (Contains-push found place))
            (cases_lt n place);
      })

      pub found_same : (IsTarget instances state p place → HasMatch o (target_pairs instances state p place) → ⊥) → FoundBelow p (place + 1) found
      found_same none = record {
        targets = was.targets;
        every = λ n l t m. ⊎_elim
            (λ (before : n < place). was.every n before t m)
            (λ (last : place ≤ n).
            let same : place ≡ n = omega (arith, l, last) in
            absurd (none (subst (λ k. IsTarget instances state p k) (sym same) t) (subst (λ k. HasMatch o (target_pairs instances state p k)) (sym same) m)))
            (cases_lt n place);
      }

      pub found_all : ((n : ℕ) → IsTarget instances state p n → n < place) → AreCandidates instances state o p found
      found_all below = record {
        targets = was.targets;
        every = λ n t m. (n, was.every n (below n t) t m, refl, refl);
      }
