-- What is kept beside the entries stays right.
use Rattle.std.proofs.Common.{◌≡◌, ℕ, zero, suc, ◌+◌, ◌<◌, ◌≤◌, ◌-◌, inl, inr, Bool, true, false, ◌&&◌, not, cond, List, [], ◌∷◌, ◌++◌, length, map, set, None, Some, Result, Ok, Err, OnOk, refl, ap, sym, ◌∙◌, subst, arith, length-append, length-set}
use Rattle.std.proofs.lemmas.List.{length-map}
use Rattle.std.specs.List.{filter, position_from}
use Rattle.std.proofs.lemmas.List.Sums.{sum_by_push}
use Rattle.fold_core.specs.declared.event.Origin.{Origin}
use Rattle.fold_core.specs.declared.event.Status.{Status}
use Rattle.fold_core.specs.declared.event.Status.TheVariants.{Waiting, Taken, Finished, Retired}
use Rattle.fold_core.specs.Rules.{Rules}
use Rattle.fold_core.specs.Machine.{Entry, Stands, is_live, is_waiting, is_taken, least_waiting, least_cover, overtaken, let_go, put_back, put_back_entry}
use Rattle.fold_core.proofs.Places.{stands_within, stands_append, stands_unmap, stands_unset, position_some}
use Rattle.fold_core.proofs.Counting.{weight, taken_map, taken_none, taken_set}
use Rattle.fold_store.specs.Table.{most_entries, numbers_where, live_numbers, passes, covers_at, covered_at, first_passing, retired_by, retire_each, NoneWaits, Indexed, TakenEntry, SplitsLive, with_kept}
use Rattle.fold_store.proofs.Numbers.{stands_at, filter_numbers, first_numbers, retire_numbers, numbers_append, numbers_map, numbers_set}

-- The least that waits is the first that does.
waiting_from : {I : Type 0} (es : List (Entry I)) (k n : ℕ) (e : Entry I) → ((m : ℕ) (d : Entry I) → m < k → Stands es m d → is_waiting d.status ≡ false)
    → Stands es k e → is_waiting e.status ≡ true → position_from (λ w. is_waiting w.status) n es ≡ Some (n + k)
waiting_from [] k n e none s w = absurd (let is = s.is in cc)
waiting_from (d ∷ es) zero n e none s w =
    let is = s.is in
    let same : d ≡ e = cc in
    let q : n ≡ n + 0 = omega arith in
    ap (λ b. cond b (Some n) (position_from (λ v. is_waiting v.status) (n + 1) es)) (ap (λ v. is_waiting v.status) same ∙ w) ∙ ap (λ m. Some m) q
waiting_from (d ∷ es) (suc k) n e none s w =
    let q : n + 1 + k ≡ n + suc k = omega arith in
    let first = none 0 d (omega arith) (record { is = refl }) in
    ap (λ b. cond b (Some n) (position_from (λ v. is_waiting v.status) (n + 1) es)) first
    ∙ waiting_from es k (n + 1) e (λ m v h t. none (suc m) v (omega arith) (record { is = t.is })) (record { is = s.is }) w
    ∙ ap (λ m. Some m) q

waiting_nowhere : {I : Type 0} (es : List (Entry I)) (n : ℕ) → ((m : ℕ) (d : Entry I) → Stands es m d → is_waiting d.status ≡ false)
    → position_from (λ w. is_waiting w.status) n es ≡ None
waiting_nowhere [] n none = refl
waiting_nowhere (d ∷ es) n none =
    ap (λ b. cond b (Some n) (position_from (λ v. is_waiting v.status) (n + 1) es)) (none 0 d (record { is = refl }))
    ∙ waiting_nowhere es (n + 1) (λ m v t. none (suc m) v (record { is = t.is }))

pub waiting_first : {I : Type 0} (es : List (Entry I)) (k : ℕ) → k < length es → NoneWaits k es
    → ((e : Entry I) → Stands es k e → is_waiting e.status ≡ true) → Some k ≡ least_waiting es
waiting_first es k h none waits =
    let there = stands_at es k h in
    let q : 0 + k ≡ k = omega arith in
    sym (waiting_from es k 0 there.0 none.none there.1 (waits there.0 there.1) ∙ ap (λ m. Some m) q)

pub waiting_none : {I : Type 0} (es : List (Entry I)) (k : ℕ) → length es ≤ k → NoneWaits k es → None ≡ least_waiting es
waiting_none es k h none = sym (waiting_nowhere es 0 (λ m d s. (let w = stands_within s in none.none m d (omega arith) s)))

pub least_cover_is : {I : Type 0} (r : Rules I) (x : I) (es : List (Entry I)) → first_passing (covers_at r x es) (live_numbers es) ≡ least_cover r x es
least_cover_is r x es = first_numbers (λ e. is_live e.status) (λ e. r.covers e.item x) es

-- An entry was changed, and lives as before.
pub indexed_set : {I : Type 0} (es : List (Entry I)) (live : List ℕ) (first taken now k : ℕ) (e f : Entry I) → Indexed es live first taken → Stands es k e
    → is_live f.status ≡ is_live e.status → is_waiting f.status ≡ false → now + weight e ≡ taken + weight f → Indexed (set es k f) live first now
indexed_set es live first taken now k e f i s lives waits counted = record {
  few = (let n = length-set es k f in let h = i.few in omega arith);
  live_is = i.live_is ∙ sym (numbers_set (λ w. is_live w.status) 0 es k e f s lives);
  none_waits = record {
    none = λ m d h t. elim (stands_unset es k f m d t) [
      | inl a ↦ i.none_waits.none m d h a.1
      | inr b ↦ ap (λ w. is_waiting w.status) b.1 ∙ waits
    ];
  };
  first_within = (let n = length-set es k f in let h = i.first_within in omega arith);
  taken_is = (let t = taken_set es k e f s in let h = i.taken_is in omega arith);
}

pub let_go_over : (s : Status) → (is_live (let_go s) ≡ is_live s) × (is_waiting (let_go s) ≡ false) × (is_taken (let_go s) ≡ false)
let_go_over Waiting = (refl, refl, refl)
let_go_over Taken = (refl, refl, refl)
let_go_over Finished = (refl, refl, refl)
let_go_over (Retired to tick taken) = (refl, refl, refl)

waiting_lives : (s : Status) → is_waiting s ≡ true → (is_live s ≡ true) × (is_taken s ≡ false)
waiting_lives Waiting w = (refl, refl)
waiting_lives Taken w = absurd (cc)
waiting_lives Finished w = absurd (cc)
waiting_lives (Retired to tick taken) w = absurd (cc)

-- The least that waits was taken.
pub indexed_take : {I : Type 0} (es fs : List (Entry I)) (live : List ℕ) (first taken now k : ℕ) → Indexed es live first taken → least_waiting es ≡ Some k
    → now ≡ taken + 1 → ((e : Entry I) → Stands es k e → fs ≡ set es k (record e { status = Taken })) → Indexed fs live first now
indexed_take es fs live first taken now k i least counted is =
    let f = position_some (λ w. is_waiting w.status) 0 es k least in
    let at : f.place ≡ k = (let q = f.place_is in omega arith) in
    let s = subst (λ n. Stands es n f.element) at f.stands in
    let w = waiting_lives f.element.status f.passes in
    let none : weight f.element ≡ 0 = ap (λ b. cond b 1 0) w.1 in
    subst (λ v. Indexed v live first now) (sym (is f.element s))
    (indexed_set es live first taken now k f.element (record f.element { status = Taken }) i s (sym w.0) refl (omega arith))

pub waiting_within : {I : Type 0} (es : List (Entry I)) (k : ℕ) → least_waiting es ≡ Some k → k < length es
waiting_within es k least =
    let f = position_some (λ w. is_waiting w.status) 0 es k least in
    let h = stands_within f.stands in
    let q = f.place_is in
    omega arith

-- Where an entry is taken, some are.
pub taken_some : {I : Type 0} (es : List (Entry I)) (live : List ℕ) (first taken k : ℕ) → Indexed es live first taken → TakenEntry k es → 0 < taken
taken_some es live first taken k i t =
    let f : Entry _ = record t.entry { status = Finished } in
    let one : weight t.entry ≡ 1 = ap (λ b. cond b 1 0) t.taken in
    let c = taken_set es k t.entry f t.stands in
    let h = i.taken_is in
    omega arith

-- A taken entry was let go.
pub indexed_let_go : {I : Type 0} (es fs : List (Entry I)) (live : List ℕ) (first taken now k : ℕ) → Indexed es live first taken → TakenEntry k es
    → now ≡ taken - 1 → ((e : Entry I) → Stands es k e → fs ≡ set es k (record e { status = let_go e.status })) → Indexed fs live first now
indexed_let_go es fs live first taken now k i t counted is =
    let f : Entry _ = record t.entry { status = let_go t.entry.status } in
    let o = let_go_over t.entry.status in
    let one : weight t.entry ≡ 1 = ap (λ b. cond b 1 0) t.taken in
    let none : weight f ≡ 0 = ap (λ b. cond b 1 0) o.2 in
    let some = taken_some es live first taken k i t in
    subst (λ v. Indexed v live first now) (sym (is t.entry t.stands))
    (indexed_set es live first taken now k t.entry f i t.stands o.0 o.1 (omega arith))

-- All were put back.
pub indexed_put_back : {I : Type 0} (es : List (Entry I)) (live : List ℕ) (first taken : ℕ) → Indexed es live first taken → Indexed (map put_back_entry es) live 0 0
indexed_put_back es live first taken i = record {
  few = (let n = length-map es put_back_entry in let h = i.few in omega arith);
  live_is = i.live_is ∙ sym (numbers_map (λ w. is_live w.status) (λ w. is_live w.status) put_back_entry (λ e. lives e.status) 0 es);
  none_waits = record { none = λ m d h t. absurd (omega arith) };
  first_within = omega arith;
  taken_is = sym (taken_none put_back_entry (λ e. free e.status) es);
}
  where
    lives : (s : Status) → is_live (put_back s) ≡ is_live s
    lives Waiting = refl
    lives Taken = refl
    lives Finished = refl
    lives (Retired to tick taken) = refl

    free : (s : Status) → is_taken (put_back s) ≡ false
    free Waiting = refl
    free Taken = refl
    free Finished = refl
    free (Retired to tick taken) = refl

-- Where the live entries are split by a test, the covered ones are retired.
unfoldable pub goes : {I : Type 0} → (Entry I → Bool) → ℕ → ℕ → Entry I → Entry I
goes test to tick e = cond (is_live e.status && test e) (retired_by to tick e) e

goes_lives : {I : Type 0} (test : Entry I → Bool) (to tick : ℕ) (e : Entry I) → is_live (goes test to tick e).status ≡ (is_live e.status && not (test e))
unfolding goes
goes_lives test to tick e =
    elim (is_live e.status) as (λ b. is_live e.status ≡ b → is_live (cond (b && test e) (retired_by to tick e) e).status ≡ (b && not (test e))) [
      | true ↦ λ l. elim (test e) as (λ b. is_live (cond b (retired_by to tick e) e).status ≡ not b) [ true ↦ refl | false ↦ l ]
      | false ↦ λ l. l
    ] refl

goes_taken : {I : Type 0} (test : Entry I → Bool) (to tick : ℕ) (e : Entry I) → is_taken (goes test to tick e).status ≡ is_taken e.status
unfolding goes
goes_taken test to tick e =
    elim (is_live e.status && test e) as (λ b. is_taken (cond b (retired_by to tick e) e).status ≡ is_taken e.status) [ true ↦ refl | false ↦ refl ]

goes_waits : {I : Type 0} (test : Entry I → Bool) (to tick : ℕ) (e : Entry I) → is_waiting e.status ≡ false → is_waiting (goes test to tick e).status ≡ false
unfolding goes
goes_waits test to tick e none =
    elim (is_live e.status && test e) as (λ b. is_waiting (cond b (retired_by to tick e) e).status ≡ false) [ true ↦ refl | false ↦ none ]

pub goes_all : {I : Type 0} (to tick : ℕ) (covered others : List ℕ) (x : I) (origin : Origin) (es : List (Entry I)) (s : SplitsLive covered others es)
    → with_kept to tick covered x origin es ≡ map (goes s.test to tick) es ++ record { item = x; origin = origin; status = Waiting } ∷ []
unfolding goes
goes_all to tick covered others x origin es s =
    let w = record { item = x; origin = origin; status = Waiting } ∷ [] in
    ap (λ ns. retire_each to tick ns (es ++ w)) s.covered_is ∙ retire_numbers (λ e. is_live e.status && s.test e) to tick es w

-- An item was kept.
pub indexed_kept : {I : Type 0} (es : List (Entry I)) (live covered others ns : List ℕ) (first taken tick : ℕ) (x : I) (origin : Origin) → Indexed es live first taken
    → length es < most_entries → SplitsLive covered others es → ns ≡ others ++ length es ∷ []
    → Indexed (with_kept (length es) tick covered x origin es) ns first taken
indexed_kept es live covered others ns first taken tick x origin i room s is =
    let w : Entry _ = record { item = x; origin = origin; status = Waiting } in
    let g = goes s.test (length es) tick in
    let many = length-append (map g es) (w ∷ []) in
    let same = length-map es g in
    let within = i.first_within in
    let q : 0 + length (map g es) ≡ length es = omega arith in
    subst (λ v. Indexed v ns first taken) (sym (goes_all (length es) tick covered others x origin es s)) (record {
      few = omega arith;
      live_is = is ∙ ap (λ ms. ms ++ length es ∷ []) (s.others_is ∙ sym (numbers_map (λ e. is_live e.status) (λ e. is_live e.status && not (s.test e)) g (goes_lives s.test (length es) tick) 0 es))
          ∙ ap (λ k. live_numbers (map g es) ++ k ∷ []) (sym q) ∙ sym (numbers_append (λ e. is_live e.status) 0 (map g es) w refl);
      none_waits = record {
        none = λ m d h t. elim (stands_append (map g es) w m d t) [
          | inl a ↦ (let u = stands_unmap g es m d a in ap (λ v. is_waiting v.status) u.2 ∙ goes_waits s.test (length es) tick u.0 (i.none_waits.none m u.0 h u.1))
          | inr b ↦ absurd (let m_is = b.0 in omega arith)
        ];
      };
      first_within = omega arith;
      taken_is = (let a = sum_by_push weight (map g es) w in let b = taken_map g (goes_taken s.test (length es) tick) es in let h = i.taken_is in omega arith);
    })

-- What an item covers, by the numbers.
covers_agree : {I : Type 0} (r : Rules I) (x : I) (es : List (Entry I)) (k : ℕ) (e : Entry I) → Stands es k e → covered_at r x es k ≡ r.covers x e.item
covers_agree r x es k e s = ap (passes (λ w. r.covers x w.item)) s.is

covered_by : {I : Type 0} (r : Rules I) (x : I) (es : List (Entry I)) (live covered : List ℕ) → live ≡ live_numbers es
    → covered ≡ filter (covered_at r x es) live → covered ≡ numbers_where (λ e. is_live e.status && r.covers x e.item) 0 es
covered_by r x es live covered is c =
    c ∙ ap (filter (covered_at r x es)) is ∙ filter_numbers (λ e. is_live e.status) (λ e. r.covers x e.item) (covered_at r x es) es (covers_agree r x es)

pub indexed_keep : {I : Type 0} (es fs pushed : List (Entry I)) (live covered seen others ns : List ℕ) (w : Entry I) (first taken to tick : ℕ) (x : I) (origin : Origin)
    → Indexed es live first taken → to ≡ length es → length es < most_entries → SplitsLive covered others es → seen ≡ covered
    → w ≡ record { item = x; origin = origin; status = Waiting } → pushed ≡ es ++ w ∷ [] → fs ≡ retire_each to tick seen pushed → ns ≡ others ++ to ∷ []
    → Indexed fs ns first taken
indexed_keep es fs pushed live covered seen others ns w first taken to tick x origin i at room s same fresh push retired new =
    let all : fs ≡ with_kept (length es) tick covered x origin es =
    retired ∙ ap (λ n. retire_each n tick seen pushed) at ∙ ap (λ v. retire_each (length es) tick v pushed) same
    ∙ ap (λ v. retire_each (length es) tick covered v) (push ∙ ap (λ v. es ++ v ∷ []) fresh) in
    subst (λ v. Indexed v ns first taken) (sym all)
    (indexed_kept es live covered others ns first taken tick x origin i room s (new ∙ ap (λ n. others ++ n ∷ []) at))

-- A split by what an item covers.
pub splits_by : {I : Type 0} (r : Rules I) (x : I) (es seen : List (Entry I)) (live covered others : List ℕ) → seen ≡ es → live ≡ live_numbers es
    → covered ≡ filter (covered_at r x seen) live → others ≡ filter (λ n. not (covered_at r x seen n)) live → SplitsLive covered others es
splits_by r x es seen live covered others same is c o =
    let t = λ (n : ℕ). not (covered_at r x es n) in
    record {
      test = λ e. r.covers x e.item;
      covered_is = covered_by r x es live covered is (c ∙ ap (λ v. filter (covered_at r x v) live) same);
      others_is = o ∙ ap (λ v. filter (λ n. not (covered_at r x v n)) live) same ∙ ap (filter t) is
          ∙ filter_numbers (λ e. is_live e.status) (λ e. not (r.covers x e.item)) t es (λ k e s. ap not (covers_agree r x es k e s));
    }

pub keeps_by : {I : Type 0} (r : Rules I) (x : I) (es seen : List (Entry I)) (live covered : List ℕ) (to tick : ℕ) (origin : Origin) → seen ≡ es → live ≡ live_numbers es
    → covered ≡ filter (covered_at r x seen) live
    → with_kept to tick covered x origin es ≡ map (overtaken r x to tick) es ++ record { item = x; origin = origin; status = Waiting } ∷ []
keeps_by r x es seen live covered to tick origin same is c =
    let w = record { item = x; origin = origin; status = Waiting } ∷ [] in
    ap (λ ns. retire_each to tick ns (es ++ w)) (covered_by r x es live covered is (c ∙ ap (λ v. filter (covered_at r x v) live) same))
    ∙ retire_numbers (λ e. is_live e.status && r.covers x e.item) to tick es w

pub on_ok : {X E : Type 0} (result : Result X E) {A B : Type 0} → (A → B) → OnOk result A → OnOk result B
on_ok (Ok x) f a = f a
on_ok (Err e) f a = _

pub indexed_empty : {I : Type 0} {es : List (Entry I)} {live : List ℕ} → es ≡ [] → live ≡ [] → Indexed es live 0 0
indexed_empty {es = es} {live = live} none no_live =
    subst (λ w. Indexed w live 0 0) (sym none) (record {
      few = omega arith;
      live_is = no_live;
      none_waits = record { none = λ m d h s. absurd (omega arith) };
      first_within = omega arith;
      taken_is = refl;
    })
