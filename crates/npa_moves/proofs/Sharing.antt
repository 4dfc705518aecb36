-- Which of a pattern's known facts a message made known.
use Rattle.std.proofs.Common.{◌≡◌, ℕ, ◌+◌, ◌⊎◌, inl, inr, ⊎_elim, Bool, true, false, List, [], ◌∷◌, ◌++◌, Contains, refl, sym, ◌∙◌, ap, subst}
use Rattle.std.specs.List.{list_any}
use Rattle.std.proofs.lemmas.List.Elements.{Contains-append_cases, Contains-append_left, Contains-append_right}
use Rattle.npa_term.specs.declared.term.Term.{Term}
use Rattle.npa_term.specs.declared.term.Var.{Var as Variable}
use Rattle.npa_term.specs.Bound.{applied}
use Rattle.npa_term.specs.Canonical.{canonical}
use Rattle.npa_term.specs.Computed.{equal}
use Rattle.npa_term.proofs.Identity.{equal_are, equal_itself}
use Rattle.npa_unify.proofs.Members.{here, later, nowhere, member_cases, only_one}
use Rattle.npa_variants.proofs.Members.{any_member, any_of}
use Rattle.npa_moves.specs.Picks.{Pick, picks, picks_from}

falsely : true ≡ false → ⊥
falsely e = cc

-- A pick of those terms for which a test holds.
record Filters (p : Term → Bool) (taken left : List Term) (places : List ℕ) (k : ℕ) (ts : List Term) : Type 0 where
  pub pick : Pick
  pub there : Contains (picks_from taken left places k ts) pick
  pub takes : (t : Term) → Contains pick.taken t → Contains taken t ⊎ (p t ≡ true)
  pub leaves : (t : Term) → Contains pick.left t → Contains left t ⊎ (Contains ts t × (p t ≡ false))

same_equal : (t u : Term) → t ≡ u → equal t u ≡ true
same_equal t u is = subst (λ (x : Term). equal t x ≡ true) is (equal_itself t)

module _ (p : Term → Bool) where
  denied : (ts : List Term) → list_any p ts ≡ false → (t : Term) → Contains ts t → p t ≡ false
  denied ts none t c = elim (p t) as (λ b. p t ≡ b → b ≡ false) [
    | true ↦ λ e. absurd (falsely (sym (any_member p ts t c e) ∙ none))
    | false ↦ λ e. refl
  ] refl

  taken_push : (taken : List Term) (t u : Term) → p t ≡ true → Contains (taken ++ t ∷ []) u ⊎ (p u ≡ true) → Contains taken u ⊎ (p u ≡ true)
  taken_push taken t u holds = ⊎_elim
      (λ (c : Contains (taken ++ t ∷ []) u). ⊎_elim
      (λ (d : Contains taken u). inl d)
      (λ (d : Contains (t ∷ []) u). inr (subst (λ (x : Term). p x ≡ true) (only_one t u d) holds))
      (Contains-append_cases taken (t ∷ []) u c))
      (λ (e : p u ≡ true). inr e)

  left_push : (left ts : List Term) (t u : Term) → p t ≡ false → Contains (left ++ t ∷ []) u ⊎ (Contains ts u × (p u ≡ false)) → Contains left u ⊎ (Contains (t ∷ ts) u × (p u ≡ false))
  left_push left ts t u fails = ⊎_elim
      (λ (c : Contains (left ++ t ∷ []) u). ⊎_elim
      (λ (d : Contains left u). inl d)
      (λ (d : Contains (t ∷ []) u). let is = only_one t u d in inr (subst (Contains (t ∷ ts)) is (here t ts), subst (λ (x : Term). p x ≡ false) is fails))
      (Contains-append_cases left (t ∷ []) u c))
      (λ (e : Contains ts u × (p u ≡ false)). inr (later t u ts e.0, e.1))

  left_further : (left ts : List Term) (t u : Term) → Contains left u ⊎ (Contains ts u × (p u ≡ false)) → Contains left u ⊎ (Contains (t ∷ ts) u × (p u ≡ false))
  left_further left ts t u = ⊎_elim (λ (c : Contains left u). inl c) (λ (e : Contains ts u × (p u ≡ false)). inr (later t u ts e.0, e.1))

  rest_holds : (t : Term) (ts : List Term) → p t ≡ false → list_any p (t ∷ ts) ≡ true → list_any p ts ≡ true
  rest_holds t ts fails some =
      let one = any_of p (t ∷ ts) some in
      ⊎_elim (λ (is : t ≡ one.0). absurd (falsely (sym one.2 ∙ sym (ap p is) ∙ fails))) (λ (c : Contains ts one.0). any_member p ts one.0 c one.2) (member_cases t one.0 ts one.1)

  -- the first term is taken, and others, or no other
  with_more : (taken left : List Term) (places : List ℕ) (k : ℕ) (t : Term) (ts : List Term) → p t ≡ true → Filters p (taken ++ t ∷ []) left (places ++ k ∷ []) (k + 1) ts → Filters p taken left places k (t ∷ ts)
  with_more taken left places k t ts holds f =
      let one : Pick = record { taken = taken ++ t ∷ []; left = left ++ ts; places = places ++ k ∷ [] } in
      let more = picks_from (taken ++ t ∷ []) left (places ++ k ∷ []) (k + 1) ts in
      let others = picks_from taken (left ++ t ∷ []) places (k + 1) ts in
      record {
        pick = f.pick;
        there = later one f.pick (more ++ others) (Contains-append_left more others f.pick f.there);
        takes = λ u c. taken_push taken t u holds (f.takes u c);
        leaves = λ u c. left_further left ts t u (f.leaves u c);
      }

  with_first : (taken left : List Term) (places : List ℕ) (k : ℕ) (t : Term) (ts : List Term) → p t ≡ true → list_any p ts ≡ false → Filters p taken left places k (t ∷ ts)
  with_first taken left places k t ts holds none =
      let one : Pick = record { taken = taken ++ t ∷ []; left = left ++ ts; places = places ++ k ∷ [] } in
      let more = picks_from (taken ++ t ∷ []) left (places ++ k ∷ []) (k + 1) ts in
      let others = picks_from taken (left ++ t ∷ []) places (k + 1) ts in
      record {
        pick = one;
        there = here one (more ++ others);
        takes = λ u c. taken_push taken t u holds (inl c);
        leaves = λ u c. ⊎_elim (λ (d : Contains left u). inl d) (λ (d : Contains ts u). inr (later t u ts d, denied ts none u d)) (Contains-append_cases left ts u c);
      }

  -- the first term isn't taken
  without_first : (taken left : List Term) (places : List ℕ) (k : ℕ) (t : Term) (ts : List Term) → p t ≡ false → Filters p taken (left ++ t ∷ []) places (k + 1) ts → Filters p taken left places k (t ∷ ts)
  without_first taken left places k t ts fails f =
      let one : Pick = record { taken = taken ++ t ∷ []; left = left ++ ts; places = places ++ k ∷ [] } in
      let more = picks_from (taken ++ t ∷ []) left (places ++ k ∷ []) (k + 1) ts in
      let others = picks_from taken (left ++ t ∷ []) places (k + 1) ts in
      record {
        pick = f.pick;
        there = later one f.pick (more ++ others) (Contains-append_right more others f.pick f.there);
        takes = f.takes;
        leaves = λ u c. left_push left ts t u fails (f.leaves u c);
      }

  filters : (taken left : List Term) (places : List ℕ) (k : ℕ) (ts : List Term) → list_any p ts ≡ true → Filters p taken left places k ts
  filters taken left places k [] some = absurd (falsely (sym some))
  filters taken left places k (t ∷ ts) some =
      elim (p t) as (λ b. p t ≡ b → Filters p taken left places k (t ∷ ts)) [
        | true ↦ λ holds. elim (list_any p ts) as (λ b. list_any p ts ≡ b → Filters p taken left places k (t ∷ ts)) [
          | true ↦ λ more. with_more taken left places k t ts holds (filters (taken ++ t ∷ []) left (places ++ k ∷ []) (k + 1) ts more)
          | false ↦ λ none. with_first taken left places k t ts holds none
        ] refl
        | false ↦ λ fails. without_first taken left places k t ts fails (filters taken (left ++ t ∷ []) places (k + 1) ts (rest_holds t ts fails some))
      ] refl

-- ## The facts that a message made known

-- All known facts were told before, or some weren't: those of a pick equal the message, which wasn't told
-- before, and the others were.
pub data Share (told : List Term) (x : Term) (a : List (Variable × Term)) (known : List Term) : Type 0 where
  all_told : ((t : Term) → Contains known t → Contains told (canonical (applied a t))) → Share told x a known
  some_made : (pick : Pick) → Contains (picks known) pick → ((t : Term) → Contains pick.taken t → canonical (applied a t) ≡ x) →
      ((t : Term) → Contains pick.left t → Contains told (canonical (applied a t))) → (Contains told x → ⊥) → Share told x a known

module _ (told : List Term) (x : Term) (a : List (Variable × Term)) (known : List Term)
    (shares : (t : Term) → Contains known t → Contains told (canonical (applied a t)) ⊎ (x ≡ canonical (applied a t))) where
  is_made : Term → Bool
  is_made t = equal x (canonical (applied a t))

  unmade : list_any is_made known ≡ false → Share told x a known
  unfolding is_made
  unmade none = all_told (λ t c. ⊎_elim (λ (d : Contains told (canonical (applied a t))). d)
      (λ (is : x ≡ canonical (applied a t)). absurd (falsely (sym (same_equal x (canonical (applied a t)) is) ∙ denied is_made known none t c))) (shares t c))

  made : (Contains told x → ⊥) → list_any is_made known ≡ true → Share told x a known
  unfolding is_made
  made untold some =
      let f = filters is_made [] [] [] 0 known some in
      some_made f.pick f.there
      (λ t c. ⊎_elim (λ (d : Contains [] t). absurd (nowhere t d)) (λ (e : is_made t ≡ true). sym (equal_are x (canonical (applied a t)) e)) (f.takes t c))
      (λ t c. ⊎_elim (λ (d : Contains [] t). absurd (nowhere t d))
      (λ (e : Contains known t × (is_made t ≡ false)). ⊎_elim (λ (d : Contains told (canonical (applied a t))). d)
      (λ (is : x ≡ canonical (applied a t)). absurd (falsely (sym (same_equal x (canonical (applied a t)) is) ∙ e.1))) (shares t e.0)) (f.leaves t c))
      untold

  was_told : Contains told x → Share told x a known
  was_told c = all_told (λ t d. ⊎_elim (λ (e : Contains told (canonical (applied a t))). e) (λ (is : x ≡ canonical (applied a t)). subst (Contains told) is c) (shares t d))

  untold_of : list_any (equal x) told ≡ false → Contains told x → ⊥
  untold_of none c = falsely (sym (any_member (equal x) told x c (same_equal x x refl)) ∙ none)

  pub shared : Share told x a known
  shared = elim (list_any (equal x) told) as (λ b. list_any (equal x) told ≡ b → Share told x a known) [
    | true ↦ λ e. let one = any_of (equal x) told e in was_told (subst (Contains told) (sym (equal_are x one.0 one.2)) one.1)
    | false ↦ λ e. elim (list_any is_made known) as (λ b. list_any is_made known ≡ b → Share told x a known) [
      | true ↦ λ f. made (untold_of e) f
      | false ↦ λ f. unmade f
    ] refl
  ] refl
