-- A group that grows until it has all that is linked to its members.
use Rattle.std.specs.Prelude.{IsTrue}
use Rattle.std.proofs.Common.{◌≡◌, Bool, true, false, ℕ, zero, suc, ◌+◌, ◌-◌, ◌<◌, ◌≤◌, ⊎_elim, List, [], ◌∷◌, ◌++◌, slice_index, length, Contains, append-nil, append_assoc, refl, ap, sym, ◌∙◌, subst, arith}
use Rattle.std.specs.List.{IsDistinct, AllByRecursion, list_any}
use Rattle.std.proofs.Math.Dec.{eqb}
use Rattle.std.proofs.lemmas.Bool.{eqb-true, cases_lt}
use Rattle.std.proofs.lemmas.List.Elements.{Contains-append_left, Contains-append_cases, Contains-get_or}
use Rattle.std.proofs.lemmas.Map.Views.{Contains-from_any}
use Rattle.std.proofs.lemmas.Map.Steps.{length-le_from_distinct_below}
use Rattle.npa_replay.specs.Groups.{HasLinked, IsClosed, IsGrown}
use Rattle.npa_list.specs.Different.{AreDifferent}
use Rattle.npa_replay.proofs.Choosing.{same_member}
use Rattle.npa_replay.proofs.Members.{contains_head, contains_tail, contains_one}

no_empty : {X : Type 0} (x : X) → Contains [] x → ⊥
no_empty x h = omega (arith, h.1)

pub grown_none : (k : ℕ) (old new : List ℕ) → new ≡ old → IsGrown k old new
grown_none k old new e = subst (λ (ns : List ℕ). IsGrown k old ns) (sym e) (record { more = []; behind = sym (append-nil old); different = λ d. d; within = λ w. w })

pub grown_then : (k : ℕ) (old mid new : List ℕ) → IsGrown k old mid → IsGrown k mid new → IsGrown k old new
grown_then k old mid new a b = record {
  more = a.more ++ b.more;
  behind = b.behind ∙ ap (λ ns. ns ++ b.more) a.behind ∙ append_assoc old a.more b.more;
  different = λ d. b.different (a.different d);
  within = λ w. b.within (a.within w);
}

different_push : (ns : List ℕ) (n : ℕ) → (Contains ns n → ⊥) → AreDifferent ns → AreDifferent (ns ++ n ∷ [])
different_push [] n new d = (λ h. no_empty n h, tt)
different_push (m ∷ ns) n new d = (
  (λ h. ⊎_elim (λ l. d.0 l) (λ r. new (subst (λ x. Contains (m ∷ ns) x) (sym (contains_one n m r)) (contains_head m ns))) (Contains-append_cases ns (n ∷ []) m h)),
  different_push ns n (λ h. new (contains_tail m ns n h)) d.1,
)

pub grown_push : (k : ℕ) (old new : List ℕ) (n : ℕ) → n ≤ k → (Contains old n → ⊥) → new ≡ old ++ n ∷ [] → IsGrown k old new
grown_push k old new n l fresh e = subst (λ (ns : List ℕ). IsGrown k old ns) (sym e) (record {
  more = n ∷ [];
  behind = refl;
  different = λ d. different_push old n fresh d;
  within = λ w i h. ⊎_elim (λ a. w i a) (λ b. let same = contains_one n i b in omega (arith, l, same)) (Contains-append_cases old (n ∷ []) i h);
})

pub grown_has : (k : ℕ) (old new : List ℕ) → IsGrown k old new → (i : ℕ) → Contains old i → Contains new i
grown_has k old new g i h = subst (λ (ns : List ℕ). Contains ns i) (sym g.behind) (Contains-append_left old g.more i h)

index_front : (ns ms : List ℕ) (a : ℕ) → a < length ns → slice_index (ns ++ ms) a ≡ slice_index ns a
index_front [] ms a l = absurd (omega (arith, l))
index_front (n ∷ ns) ms zero l = refl
index_front (n ∷ ns) ms (suc a) l = index_front ns ms a (omega (arith, l))

grown_index : (k : ℕ) (old new : List ℕ) → IsGrown k old new → (a : ℕ) → a < length old → slice_index new a ≡ slice_index old a
grown_index k old new g a l = ap (λ (ns : List ℕ). slice_index ns a) g.behind ∙ index_front old g.more a l

length_append : (ns ms : List ℕ) → length (ns ++ ms) ≡ length ns + length ms
length_append [] ms = let e : length ms ≡ 0 + length ms = omega arith in e
length_append (n ∷ ns) ms = let e = length_append ns ms in omega (arith, e)

-- numbers up to k that are different are no more than k + 1
distinct : (ns : List ℕ) → AreDifferent ns → IsDistinct eqb ns
unfolding IsDistinct
distinct [] d = tt
distinct (n ∷ ns) d = (none ns d.0, distinct ns d.1)
  where
    none : (ms : List ℕ) → (Contains ms n → ⊥) → AllByRecursion (λ y. eqb n y ≡ false) ms
    none [] f = tt
    none (m ∷ ms) f = (other (eqb n m) refl, none ms (λ h. f (contains_tail m ms n h)))
      where
        other : (b : Bool) → eqb n m ≡ b → eqb n m ≡ false
        other true e = absurd (f (subst (λ x. Contains (m ∷ ms) x) (sym (eqb-true n m e)) (contains_head m ms)))
        other false e = e

found_in : (ns : List ℕ) (q : ℕ) → list_any (eqb q) ns ≡ true → Contains ns q
found_in ns q e = Contains-from_any {eq = eqb} (λ x y f. eqb-true x y f) q ns e

few : (k : ℕ) (ns : List ℕ) → AreDifferent ns → ((i : ℕ) → Contains ns i → i ≤ k) → length ns ≤ k + 1
few k ns d w = length-le_from_distinct_below ns (k + 1) (distinct ns d) (λ q h. let l = w q (found_in ns q h) in omega (arith, l))

-- how far the group has grown: the members before these places have all that is linked to them
pub record Growing (by_variable by_strand : List (List ℕ)) (k : ℕ) (ns : List ℕ) (shared alike : ℕ) : Type 0 where
  pub first : Contains ns k
  pub within : (i : ℕ) → Contains ns i → i ≤ k
  pub different : AreDifferent ns
  pub order : alike ≤ shared
  pub inside : shared ≤ length ns
  pub variables_ : (a : ℕ) → a < shared → HasLinked by_variable k ns (slice_index ns a)
  pub strands_ : (a : ℕ) → a < alike → HasLinked by_strand k ns (slice_index ns a)

module _ (by_variable by_strand : List (List ℕ)) (k : ℕ) where
  pub growing_first : (ns : List ℕ) → ns ≡ k ∷ [] → Growing by_variable by_strand k ns 0 0
  growing_first ns e = subst (λ (ms : List ℕ). Growing by_variable by_strand k ms 0 0) (sym e) (record {
    first = contains_head k [];
    within = λ i h. let same = contains_one k i h in omega (arith, same);
    different = (λ h. no_empty k h, tt);
    order = omega arith;
    inside = omega arith;
    variables_ = λ a l. let none : ⊥ = omega (arith, l) in absurd none;
    strands_ = λ a l. let none : ⊥ = omega (arith, l) in absurd none;
  })

  module _ (ns : List ℕ) (shared alike : ℕ) (was : Growing by_variable by_strand k ns shared alike) where
    pub growing_few : length ns ≤ k + 1
    growing_few = few k ns was.different was.within

    member_at : (a : ℕ) → a < length ns → Contains ns (slice_index ns a)
    member_at a l = Contains-get_or ns a 0 l

    pub growing_within : (a : ℕ) → a < length ns → slice_index ns a ≤ k
    growing_within a l = was.within (slice_index ns a) (member_at a l)

    module _ (new : List ℕ) (g : IsGrown k ns new) where
      -- what is linked stays there
      kept : (links : List (List ℕ)) (a : ℕ) → a < length ns → HasLinked links k ns (slice_index ns a) → HasLinked links k new (slice_index new a)
      kept links a l h = subst (λ i. HasLinked links k new i) (sym (grown_index k ns new g a l)) (λ js at j there m. grown_has k ns new g j (h js at j there m))

      more : (links : List (List ℕ)) (n : ℕ) → n < length ns → ((a : ℕ) → a < n → HasLinked links k ns (slice_index ns a)) → HasLinked links k new (slice_index ns n) →
          (a : ℕ) → a < n + 1 → HasLinked links k new (slice_index new a)
      more links n here before last a l = ⊎_elim
          (λ (b : a < n). kept links a (omega (arith, b, here)) (before a b))
          (λ (b : n ≤ a).
          let same : n ≡ a = omega (arith, l, b) in
          subst (λ i. HasLinked links k new (slice_index new i)) same (subst (λ i. HasLinked links k new i) (sym (grown_index k ns new g n here)) last))
          (cases_lt a n)

      longer : length ns ≤ length new
      longer = omega (arith, ap length g.behind, length_append ns g.more)

      pub growing_shared : shared < length ns → HasLinked by_variable k new (slice_index ns shared) → Growing by_variable by_strand k new (shared + 1) alike
      growing_shared l h = record {
        first = grown_has k ns new g k was.first;
        within = g.within was.within;
        different = g.different was.different;
        order = omega (arith, was.order);
        inside = omega (arith, l, longer);
        variables_ = more by_variable shared l was.variables_ h;
        strands_ = λ a b. kept by_strand a (omega (arith, b, was.order, was.inside)) (was.strands_ a b);
      }

      pub growing_alike : alike < length ns → length ns ≤ shared → HasLinked by_strand k new (slice_index ns alike) → Growing by_variable by_strand k new shared (alike + 1)
      growing_alike l m h = record {
        first = grown_has k ns new g k was.first;
        within = g.within was.within;
        different = g.different was.different;
        order = omega (arith, l, m);
        inside = omega (arith, was.inside, longer);
        variables_ = λ a b. kept by_variable a (omega (arith, b, was.inside)) (was.variables_ a b);
        strands_ = more by_strand alike l was.strands_ h;
      }

    closed : (links : List (List ℕ)) (n : ℕ) → length ns ≤ n → ((a : ℕ) → a < n → HasLinked links k ns (slice_index ns a)) → IsClosed links k ns
    closed links n l each i h = subst (λ x. HasLinked links k ns x) (same_member ns h.0 i h.1 h.2) (each h.0 (omega (arith, l, h.1)))

    pub growing_closed_variables : length ns ≤ alike → IsClosed by_variable k ns
    growing_closed_variables l = closed by_variable shared (omega (arith, l, was.order)) was.variables_

    pub growing_closed_strands : length ns ≤ alike → IsClosed by_strand k ns
    growing_closed_strands l = closed by_strand alike l was.strands_

-- the first so many of these places up to k were added
pub record Added (k : ℕ) (more : List ℕ) (n : ℕ) (old new : List ℕ) : Type 0 where
  pub grown : IsGrown k old new
  pub there : (i : ℕ) → i < n → slice_index more i ≤ k → Contains new (slice_index more i)

module _ (k : ℕ) (more : List ℕ) where
  pub added_none : (old : List ℕ) → Added k more 0 old old
  added_none old = record { grown = grown_none k old old refl; there = λ i l. let none : ⊥ = omega (arith, l) in absurd none }

  module _ (n : ℕ) (old mid : List ℕ) (was : Added k more n old mid) where
    pub added_more : (new : List ℕ) → IsGrown k mid new → Contains new (slice_index more n) → Added k more (n + 1) old new
    added_more new g here = record {
      grown = grown_then k old mid new was.grown g;
      there = λ i l m. ⊎_elim
          (λ (before : i < n). grown_has k mid new g (slice_index more i) (was.there i before m))
          (λ (last : n ≤ i). let same : n ≡ i = omega (arith, l, last) in subst (λ j. Contains new (slice_index more j)) same here)
          (cases_lt i n);
    }

    pub added_skip : k < slice_index more n → Added k more (n + 1) old mid
    added_skip past = record {
      grown = was.grown;
      there = λ i l m. ⊎_elim
          (λ (before : i < n). was.there i before m)
          (λ (last : n ≤ i). let same : n ≡ i = omega (arith, l, last) in let at : slice_index more n ≡ slice_index more i = ap (slice_index more) same in absurd (omega (arith, past, at, m)))
          (cases_lt i n);
    }

    pub added_all : length more ≤ n → (i : ℕ) → Contains more i → i ≤ k → Contains mid i
    added_all past i h l =
        let at : slice_index more h.0 ≡ i = same_member more h.0 i h.1 h.2 in
        subst (λ j. Contains mid j) at (was.there h.0 (omega (arith, past, h.1)) (omega (arith, at, l)))

-- a place that isn't found is a new one
pub fresh : (b : Bool) (slice ns : List ℕ) → slice ≡ ns → (n : ℕ) → (Contains slice n → IsTrue b) → b ≡ false → Contains ns n → ⊥
fresh b slice ns same n found other h = by b (found (subst (λ (ms : List ℕ). Contains ms n) (sym same) h)) other
  where
    by : (c : Bool) → IsTrue c → c ≡ false → ⊥
    by true t f = cc
    by false t f = cc

-- the loop ends
pub less_shared : (k shared alike n : ℕ) → shared < n → n ≤ k + 1 → (k + 1 - (shared + 1)) + (k + 1 - alike) < (k + 1 - shared) + (k + 1 - alike)
less_shared k shared alike n l m = omega (arith, l, m)

pub less_alike : (k shared alike n : ℕ) → alike < n → n ≤ k + 1 → (k + 1 - shared) + (k + 1 - (alike + 1)) < (k + 1 - shared) + (k + 1 - alike)
less_alike k shared alike n l m = omega (arith, l, m)
