-- What is retired is in the log, by which its tick is found.
use Rattle.std.proofs.Common.{◌≡◌, ◌⊎◌, ℕ, ◌+◌, ◌<◌, ◌≤◌, inl, inr, Bool, true, false, ◌&&◌, cond, min, List, [], ◌∷◌, ◌++◌, length, map, set, Option, None, Some, slice_get, get_or, refl, ap, sym, ◌∙◌, subst, arith, length-set}
use Rattle.std.proofs.lemmas.Bool.{ltb-true, ltb-false}
use Rattle.std.proofs.Math.Dec.{ltb}
use Rattle.fold_core.specs.declared.event.Origin.{Origin}
use Rattle.fold_core.specs.declared.event.Status.{Status}
use Rattle.fold_core.specs.declared.event.Status.TheVariants.{Waiting, Taken, Finished, Retired}
use Rattle.fold_core.specs.Machine.{Entry, Stands, is_live, is_taken, is_waiting, least_waiting, let_go, put_back, put_back_entry}
use Rattle.fold_core.proofs.Places.{stands_one, stands_within, stands_append, stands_unmap, stands_unset, stands_set_same, position_some}
use Rattle.fold_store.specs.declared.log.Mark.{Mark}
use Rattle.fold_store.specs.Log.{Marked, NoneNewer, clip_mark}
use Rattle.fold_store.specs.Table.{Logged, TakenEntry, SplitsLive, numbers_where, retired_by, retire_each, clip_status, clip_entry, clip_option, ClipsMarked}
use Rattle.fold_store.proofs.Numbers.{stands_at, stands_get, map_by, numbers_has}
use Rattle.fold_store.proofs.Logging.{marked_clip}
use Rattle.fold_store.proofs.Indexing.{goes, goes_all}

-- The status was retired at this tick.
WasRetired : Status → ℕ → Type 0
WasRetired s tick = (to : ℕ) × (taken : Bool) × (s ≡ Retired to tick taken)

logged_set : {I : Type 0} {es : List (Entry I)} {marks : List Mark} (k : ℕ) (e f : Entry I) → Logged es marks → Stands es k e
    → ((to tick : ℕ) (taken : Bool) → f.status ≡ Retired to tick taken → WasRetired e.status tick) → Logged (set es k f) marks
unfolding WasRetired
logged_set {es = es} {marks = marks} k e f l at back = record {
  marked = λ n d to tick taken s is. elim (stands_unset es k f n d s) [
    | inl a ↦ l.marked n d to tick taken a.1 is
    | inr b ↦
        (let p = back to tick taken (ap (λ (w : Entry _). w.status) (sym b.1) ∙ is) in
        subst (λ m. Marked marks m tick) (sym b.0) (l.marked k e p.0 tick p.1 at p.2))
  ];
}

logged_map : {I : Type 0} {es : List (Entry I)} {marks : List Mark} (g : Entry I → Entry I) → Logged es marks
    → ((e : Entry I) (to tick : ℕ) (taken : Bool) → (g e).status ≡ Retired to tick taken → WasRetired e.status tick) → Logged (map g es) marks
unfolding WasRetired
logged_map {es = es} g l back = record {
  marked = λ n d to tick taken s is.
      (let u = stands_unmap g es n d s in
      let p = back u.0 to tick taken (ap (λ (w : Entry _). w.status) (sym u.2) ∙ is) in
      l.marked n u.0 p.0 tick p.1 u.1 p.2);
}

let_go_back : (s : Status) (to tick : ℕ) (taken : Bool) → let_go s ≡ Retired to tick taken → WasRetired s tick
unfolding WasRetired
let_go_back Waiting to tick taken is = absurd (cc)
let_go_back Taken to tick taken is = absurd (cc)
let_go_back Finished to tick taken is = absurd (cc)
let_go_back (Retired next since mark) to tick taken is = let same : since ≡ tick = cc in (next, mark, ap (λ t. Retired next t mark) same)

put_back_back : (s : Status) (to tick : ℕ) (taken : Bool) → put_back s ≡ Retired to tick taken → WasRetired s tick
unfolding WasRetired
put_back_back Waiting to tick taken is = absurd (cc)
put_back_back Taken to tick taken is = absurd (cc)
put_back_back Finished to tick taken is = absurd (cc)
put_back_back (Retired next since mark) to tick taken is = let same : since ≡ tick = cc in (next, mark, ap (λ t. Retired next t mark) same)

clip_back : (b : ℕ) (s : Status) (to tick : ℕ) (taken : Bool) → clip_status b s ≡ Retired to tick taken → (since : ℕ) × WasRetired s since × (tick ≡ min since b)
unfolding WasRetired
clip_back b Waiting to tick taken is = absurd (cc)
clip_back b Taken to tick taken is = absurd (cc)
clip_back b Finished to tick taken is = absurd (cc)
clip_back b (Retired next since mark) to tick taken is = let same : tick ≡ min since b = cc in (since, (next, mark, refl), same)

-- The least that waits was taken.
pub logged_take : {I : Type 0} {es fs : List (Entry I)} {marks : List Mark} (k : ℕ) → Logged es marks → least_waiting es ≡ Some k
    → ((e : Entry I) → Stands es k e → fs ≡ set es k (record e { status = Taken })) → Logged fs marks
unfolding WasRetired
logged_take {es = es} {marks = marks} k l least is =
    let f = position_some (λ w. is_waiting w.status) 0 es k least in
    let at : f.place ≡ k = (let q = f.place_is in omega arith) in
    let s = subst (λ n. Stands es n f.element) at f.stands in
    subst (λ v. Logged v marks) (sym (is f.element s)) (logged_set k f.element (record f.element { status = Taken }) l s (λ to tick taken bad. absurd (cc)))

-- A taken entry was let go.
pub logged_let_go : {I : Type 0} {es fs : List (Entry I)} {marks : List Mark} (k : ℕ) → Logged es marks → TakenEntry k es
    → ((e : Entry I) → Stands es k e → fs ≡ set es k (record e { status = let_go e.status })) → Logged fs marks
logged_let_go {marks = marks} k l t is =
    subst (λ v. Logged v marks) (sym (is t.entry t.stands)) (logged_set k t.entry (record t.entry { status = let_go t.entry.status }) l t.stands (let_go_back t.entry.status))

pub logged_put_back : {I : Type 0} {es : List (Entry I)} {marks : List Mark} → Logged es marks → Logged (map put_back_entry es) marks
logged_put_back l = logged_map put_back_entry l (λ e. put_back_back e.status)

pub logged_clip : {I : Type 0} {es : List (Entry I)} {marks : List Mark} (b : ℕ) → Logged es marks → Logged (map (clip_entry b) es) (map (clip_mark b) marks)
unfolding WasRetired
logged_clip {es = es} {marks = marks} b l = record {
  marked = λ n d to tick taken s is.
      (let u = stands_unmap (clip_entry b) es n d s in
      let p = clip_back b u.0.status to tick taken (ap (λ (w : Entry _). w.status) (sym u.2) ∙ is) in
      subst (Marked (map (clip_mark b) marks) n) (sym p.2) (marked_clip b marks n p.0 (l.marked n u.0 p.1.0 p.0 p.1.1 u.1 p.1.2)));
}

pub logged_empty : {I : Type 0} {es : List (Entry I)} {marks : List Mark} → es ≡ [] → Logged es marks
logged_empty {es = es} none = record { marked = λ n e to tick taken s is. absurd (let within = stands_within s in let many : length es ≡ 0 = ap length none in omega arith) }

-- The log may have more marks.
pub logged_more : {I : Type 0} {es : List (Entry I)} {marks more : List Mark} → Logged es marks → ((n since : ℕ) → Marked marks n since → Marked more n since) → Logged es more
logged_more l keeps = record { marked = λ n e to tick taken s is. keeps n tick (l.marked n e to tick taken s is) }

-- An item was kept, and what it retires was marked.
logged_goes : {I : Type 0} {es : List (Entry I)} {marks more : List Mark} {covered others : List ℕ} (to tick : ℕ) (w : Entry I) → w.status ≡ Waiting → Logged es marks → (s : SplitsLive covered others es)
    → ((k n : ℕ) → Stands covered k n → Marked more n tick) → ((n since : ℕ) → Marked marks n since → Marked more n since) → Logged (map (goes s.test to tick) es ++ w ∷ []) more
unfolding goes
logged_goes {es = es} {marks = marks} {more = more} {covered = covered} to tick w waits l s added keeps = record {
  marked = λ n d next since taken at is. elim (stands_append (map (goes s.test to tick) es) w n d at) [
    | inl a ↦
        (let u = stands_unmap (goes s.test to tick) es n d a in
        let e = u.0 in
        let hit = is_live e.status && s.test e in
        let by : (b : Bool) → hit ≡ b → Marked more n since = λ b. elim b as (λ t. hit ≡ t → Marked more n since) [
          | true ↦ λ q.
              (let gone : d.status ≡ Retired to tick (is_taken e.status) = ap (λ (v : Entry _). v.status) u.2 ∙ ap (λ t. (cond t (retired_by to tick e) e).status) q in
              let same : Retired to tick (is_taken e.status) ≡ Retired next since taken = sym gone ∙ is in
              let ticks : tick ≡ since = cc in
              let has = numbers_has (λ v. is_live v.status && s.test v) 0 es n e u.1 q in
              let zero_is : 0 + n ≡ n = omega arith in
              let there : Stands covered has.0 n = subst (λ v. Stands v has.0 n) (sym s.covered_is) (subst (λ m. Stands (numbers_where (λ v. is_live v.status && s.test v) 0 es) has.0 m) zero_is has.1) in
              subst (Marked more n) ticks (added has.0 n there))
          | false ↦ λ q.
              (let stays : e.status ≡ Retired next since taken = sym (ap (λ (v : Entry _). v.status) u.2 ∙ ap (λ t. (cond t (retired_by to tick e) e).status) q) ∙ is in
              keeps n since (l.marked n e next since taken u.1 stays))
        ] in
        by hit refl)
    | inr b ↦ absurd (let bad : Waiting ≡ Retired next since taken = sym (ap (λ (v : Entry _). v.status) b.1 ∙ waits) ∙ is in cc)
  ];
}

pub logged_keep : {I : Type 0} {es fs pushed : List (Entry I)} {marks more : List Mark} {covered others : List ℕ} (seen names : List ℕ) (to tick : ℕ) (w : Entry I) (x : I) (origin : Origin)
    → Logged es marks → to ≡ length es → (s : SplitsLive covered others es) → seen ≡ covered → names ≡ covered
    → w ≡ record { item = x; origin = origin; status = Waiting } → pushed ≡ es ++ w ∷ [] → fs ≡ retire_each to tick seen pushed
    → ((k n : ℕ) → Stands names k n → Marked more n tick) → ((n since : ℕ) → Marked marks n since → Marked more n since) → Logged fs more
logged_keep {es = es} {fs = fs} {pushed = pushed} {more = more} {covered = covered} {others = others} seen names to tick w x origin l at s same named fresh push retired added keeps =
    let new : Entry _ = record { item = x; origin = origin; status = Waiting } in
    let all : fs ≡ map (goes s.test (length es) tick) es ++ new ∷ [] =
    retired ∙ ap (λ n. retire_each n tick seen pushed) at ∙ ap (λ v. retire_each (length es) tick v pushed) same
    ∙ ap (λ v. retire_each (length es) tick covered v) (push ∙ ap (λ v. es ++ v ∷ []) fresh) ∙ goes_all (length es) tick covered others x origin es s in
    subst (λ v. Logged v more) (sym all) (logged_goes (length es) tick new refl l s (λ k n t. added k n (subst (λ v. Stands v k n) (sym named) t)) keeps)

-- The ticks of marked entries are brought down, one by one.
clip_twice : {I : Type 0} (b : ℕ) (e : Entry I) → clip_entry b (clip_entry b e) ≡ clip_entry b e
clip_twice b e = ap (λ s. record e { status = s }) (by e.status)
  where
    by : (s : Status) → clip_status b (clip_status b s) ≡ clip_status b s
    by Waiting = refl
    by Taken = refl
    by Finished = refl
    by (Retired to tick taken) = let low : min (min tick b) b ≡ min tick b = omega arith in ap (λ t. Retired to t taken) low

record ClipsOne {I : Type 0} (b m : ℕ) (es fs : List (Entry I)) : Type 0 where
  many : length fs ≡ length es
  either : (n : ℕ) (e : Entry I) → Stands es n e → Stands fs n e ⊎ Stands fs n (clip_entry b e)
  here : (e : Entry I) → Stands es m e → Stands fs m (clip_entry b e)

clips_option : {I : Type 0} (b m : ℕ) (es : List (Entry I)) (o : Option (Entry I)) → slice_get es m ≡ o → ClipsOne b m es (clip_option b m es o)
clips_option b m es None q = record {
  many = refl;
  either = λ n e s. inl s;
  here = λ e s. absurd (let is = s.is in let bad : Some e ≡ None = cc in cc);
}
clips_option b m es (Some d) q =
    let f = clip_entry b d in
    let at : Stands es m d = record { is = q } in
    let many = length-set es m f in
    record {
      many = many;
      either = λ n e s.
          (let within = stands_within s in
          let new = stands_at (set es m f) n (omega arith) in
          elim (stands_unset es m f n new.0 new.1) [
            | inl a ↦ inl (subst (λ v. Stands (set es m f) n v) (stands_one a.1 s) new.1)
            | inr c ↦
                (let here : Stands es n d = subst (λ k. Stands es k d) (sym c.0) at in
                inr (subst (λ v. Stands (set es m f) n v) (c.1 ∙ ap (clip_entry b) (stands_one here s)) new.1))
          ]);
      here = λ e s. subst (λ v. Stands (set es m f) m (clip_entry b v)) (stands_one at s) (stands_set_same f at);
    }

clips_next : {I : Type 0} (b from at : ℕ) (mark : Mark) (marks : List Mark) (es fs gs : List (Entry I)) → ClipsMarked b from at marks es fs → Stands marks at mark
    → gs ≡ clip_option b mark.number fs (slice_get fs mark.number) → ClipsMarked b from (at + 1) marks es gs
clips_next b from at mark marks es fs gs c there is =
    let one = subst (λ v. ClipsOne b mark.number fs v) (sym is) (clips_option b mark.number fs (slice_get fs mark.number) refl) in
    let on : (n : ℕ) (e : Entry _) → Stands fs n (clip_entry b e) → Stands gs n (clip_entry b e) = λ n e s. elim (one.either n (clip_entry b e) s) [
      | inl a ↦ a
      | inr a ↦ subst (λ v. Stands gs n v) (clip_twice b e) a
    ] in
    record {
      many = one.many ∙ c.many;
      either = λ n e s. elim (c.either n e s) [
        | inl a ↦ one.either n e a
        | inr a ↦ inr (on n e a)
      ];
      clipped = λ k m e low high s t.
          (let first : k < at → Stands gs m.number (clip_entry b e) = λ h. on m.number e (c.clipped k m e low h s t) in
          let last : at ≤ k → Stands gs m.number (clip_entry b e) = λ h.
          (let place : k ≡ at = omega arith in
          let same : mark ≡ m = stands_one there (subst (λ j. Stands marks j m) place s) in
          let number : mark.number ≡ m.number = ap (λ (v : Mark). v.number) same in
          let old : Stands es mark.number e = subst (λ j. Stands es j e) (sym number) t in
          let done : Stands gs mark.number (clip_entry b e) = elim (c.either mark.number e old) [
            | inl a ↦ one.here e a
            | inr a ↦ subst (λ v. Stands gs mark.number v) (clip_twice b e) (one.here (clip_entry b e) a)
          ] in
          subst (λ j. Stands gs j (clip_entry b e)) number done) in
          elim (ltb k at) as (λ v. ltb k at ≡ v → Stands gs m.number (clip_entry b e)) [
            | true ↦ λ q. first (ltb-true k at q)
            | false ↦ λ q. last (ltb-false k at q)
          ] refl);
    }

pub clips_step : {I : Type 0} (b from at : ℕ) (d : Mark) (marks : List Mark) (es fs gs : List (Entry I)) → ClipsMarked b from at marks es fs → at < length marks
    → gs ≡ clip_option b (get_or marks at d).number fs (slice_get fs (get_or marks at d).number) → ClipsMarked b from (at + 1) marks es gs
clips_step b from at d marks es fs gs c h is = clips_next b from at (get_or marks at d) marks es fs gs c (stands_get marks at (get_or marks at d) d h refl) is

pub clips_start : {I : Type 0} (b from : ℕ) (marks : List Mark) (es : List (Entry I)) → ClipsMarked b from from marks es es
clips_start b from marks es = record { many = refl; either = λ n e s. inl s; clipped = λ k m e low high s t. absurd (omega arith) }

-- So all are brought down.
pub clips_whole : {I : Type 0} (b from : ℕ) (marks : List Mark) (es fs : List (Entry I)) → Logged es marks → NoneNewer b from marks → ClipsMarked b from (length marks) marks es fs → fs ≡ map (clip_entry b) es
clips_whole b from marks es fs l older c = map_by (clip_entry b) es fs c.many (λ n e s. elim (c.either n e s) [
  | inl a ↦ by n e s a e.status refl
  | inr a ↦ a
])
  where
    same : (n : ℕ) (e : Entry _) → Stands fs n e → clip_status b e.status ≡ e.status → Stands fs n (clip_entry b e)
    same n e s is = subst (λ v. Stands fs n v) (ap (λ v. record e { status = v }) (sym is)) s

    by : (n : ℕ) (e : Entry _) → Stands es n e → Stands fs n e → (v : Status) → e.status ≡ v → Stands fs n (clip_entry b e)
    by n e s a Waiting q = same n e a (ap (clip_status b) q ∙ sym q)
    by n e s a Taken q = same n e a (ap (clip_status b) q ∙ sym q)
    by n e s a Finished q = same n e a (ap (clip_status b) q ∙ sym q)
    by n e s a (Retired to tick taken) q =
        let m = l.marked n e to tick taken s q in
        let since = m.since in
        let within = stands_within m.stands in
        elim (ltb m.place from) as (λ v. ltb m.place from ≡ v → Stands fs n (clip_entry b e)) [
          | true ↦ λ h.
              (let before = ltb-true m.place from h in
              let old = older.older m.place m.mark before m.stands in
              let low : min tick b ≡ tick = omega arith in
              same n e a (ap (clip_status b) q ∙ ap (λ t. Retired to t taken) low ∙ sym q))
          | false ↦ λ h.
              (let there : Stands es m.mark.number e = subst (λ j. Stands es j e) (sym m.number_is) s in
              subst (λ j. Stands fs j (clip_entry b e)) m.number_is (c.clipped m.place m.mark e (ltb-false m.place from h) within m.stands there))
        ] refl
