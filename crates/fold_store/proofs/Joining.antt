-- The classes stay right: however entries change, their pointers lead where they led, or on.
use Rattle.std.proofs.Common.{◌≡◌, ℕ, zero, suc, ◌+◌, ◌<◌, inl, inr, Bool, true, false, ◌&&◌, cond, min, List, [], ◌∷◌, ◌++◌, length, map, set, Some, slice_get, refl, ap, sym, ◌∙◌, subst, arith, length-append, length-set}
use Rattle.std.proofs.lemmas.List.{length-map}
use Rattle.std.proofs.lemmas.Bool.{lt-ltb, le-ltb}
use Rattle.fold_core.specs.declared.event.Origin.{Origin}
use Rattle.fold_core.specs.declared.event.Status.{Status}
use Rattle.fold_core.specs.declared.event.Status.TheVariants.{Waiting, Taken, Finished, Retired}
use Rattle.fold_core.specs.Machine.{Entry, Stands, is_live, is_waiting, is_taken, least_waiting, let_go, put_back, put_back_entry}
use Rattle.fold_core.specs.Facts.{Leads, ends, follows}
use Rattle.fold_core.proofs.Places.{stands_one, stands_within, stands_append, stands_old, stands_new, stands_map, stands_unmap, stands_unset, position_some}
use Rattle.fold_store.specs.declared.forest.Node.{Node}
use Rattle.fold_store.specs.Forest.{SameInClass, with_own}
use Rattle.fold_store.specs.Table.{Joined, TakenEntry, SplitsLive, numbers_where, passes, retired_by, retire_each, clip_status, clip_entry}
use Rattle.fold_store.proofs.Numbers.{stands_at}
use Rattle.fold_store.proofs.Walks.{leads_one, both_true}
use Rattle.fold_store.proofs.Indexing.{goes, goes_all}

-- The second status lives if the first does, and else has the same pointer.
pub data Turned : Status → Status → Type 0 where
  lives : (s t : Status) → is_live s ≡ true → is_live t ≡ true → Turned s t
  points : (to tick since : ℕ) (taken mark : Bool) → Turned (Retired to tick taken) (Retired to since mark)

live_still : {s t : Status} → Turned s t → is_live s ≡ true → is_live t ≡ true
live_still (lives s t l m) live = m
live_still (points to tick since taken mark) live = absurd (cc)

points_still : {s t : Status} (to tick : ℕ) (taken : Bool) → Turned s t → s ≡ Retired to tick taken → (since : ℕ) × (mark : Bool) × (t ≡ Retired to since mark)
points_still to tick taken (lives s t l m) is = let dead : is_live s ≡ false = ap is_live is in absurd (cc)
points_still to tick taken (points next since last old mark) is = let same : next ≡ to = cc in (last, mark, ap (λ n. Retired n last mark) same)

-- Each entry stands where it stood, turned so.
AllTurned : {I : Type 0} → List (Entry I) → List (Entry I) → Type 0
AllTurned es fs = (n : ℕ) (e : Entry _) → Stands es n e → (f : Entry _) × Stands fs n f × Turned e.status f.status

leads_turned : {I : Type 0} {es fs : List (Entry I)} {n last : ℕ} → AllTurned es fs → Leads es n last → Leads fs n last
unfolding AllTurned
leads_turned t (ends n e s live) = let f = t n e s in ends n f.0 f.1 (live_still f.2 live)
leads_turned t (follows n last e to tick taken s is rest) =
    let f = t n e s in
    let p = points_still to tick taken f.2 is in
    follows n last f.0 to p.0 p.1 f.1 p.2 (leads_turned t rest)

joined_turned : {I : Type 0} {es fs : List (Entry I)} {nodes : List Node} → Joined es nodes → length fs ≡ length es → AllTurned es fs → Joined fs nodes
joined_turned {es = es} j same t = record {
  many = j.many ∙ sym same;
  end_of = j.end_of;
  leads = λ n f s.
      (let within = stands_within s in
      let old = stands_at es n (omega arith) in
      leads_turned t (j.leads n old.0 old.1));
  same = j.same;
}

turned_same : (s : Status) → Turned s s
turned_same Waiting = lives Waiting Waiting refl refl
turned_same Taken = lives Taken Taken refl refl
turned_same Finished = lives Finished Finished refl refl
turned_same (Retired to tick taken) = points to tick tick taken taken

-- One entry turns.
joined_set : {I : Type 0} {es : List (Entry I)} {nodes : List Node} (k : ℕ) (e f : Entry I) → Joined es nodes → Stands es k e → Turned e.status f.status → Joined (set es k f) nodes
unfolding AllTurned
joined_set {es = es} k e f j s t =
    let many = length-set es k f in
    joined_turned j many (λ n d at.
    (let within = stands_within at in
    let new = stands_at (set es k f) n (omega arith) in
    let same : Turned d.status new.0.status = elim (stands_unset es k f n new.0 new.1) [
      | inl a ↦ subst (λ (w : Entry _). Turned d.status w.status) (stands_one at a.1) (turned_same d.status)
      | inr b ↦
          (let here : Stands es n e = subst (λ m. Stands es m e) (sym b.0) s in
          subst (λ (w : Entry _). Turned w.status new.0.status) (stands_one here at) (subst (λ (w : Entry _). Turned e.status w.status) (sym b.1) t))
    ] in
    (new.0, new.1, same)))

-- Each entry turns.
joined_map : {I : Type 0} {es : List (Entry I)} {nodes : List Node} (g : Entry I → Entry I) → ((e : Entry I) → Turned e.status (g e).status) → Joined es nodes → Joined (map g es) nodes
unfolding AllTurned
joined_map {es = es} g t j = joined_turned j (length-map es g) (λ n e s. (g e, stands_map g s, t e))

waiting_turned : (s : Status) → is_waiting s ≡ true → Turned s Taken
waiting_turned Waiting w = lives Waiting Taken refl refl
waiting_turned Taken w = absurd (cc)
waiting_turned Finished w = absurd (cc)
waiting_turned (Retired to tick taken) w = absurd (cc)

let_go_turned : (s : Status) → Turned s (let_go s)
let_go_turned Waiting = lives Waiting Finished refl refl
let_go_turned Taken = lives Taken Finished refl refl
let_go_turned Finished = lives Finished Finished refl refl
let_go_turned (Retired to tick taken) = points to tick tick taken false

put_back_turned : (s : Status) → Turned s (put_back s)
put_back_turned Waiting = lives Waiting Waiting refl refl
put_back_turned Taken = lives Taken Waiting refl refl
put_back_turned Finished = lives Finished Finished refl refl
put_back_turned (Retired to tick taken) = points to tick tick taken false

clip_turned : (b : ℕ) (s : Status) → Turned s (clip_status b s)
clip_turned b Waiting = lives Waiting Waiting refl refl
clip_turned b Taken = lives Taken Taken refl refl
clip_turned b Finished = lives Finished Finished refl refl
clip_turned b (Retired to tick taken) = points to tick (min tick b) taken taken

-- The least that waits was taken.
pub joined_take : {I : Type 0} {es fs : List (Entry I)} {nodes : List Node} (k : ℕ) → Joined es nodes → least_waiting es ≡ Some k
    → ((e : Entry I) → Stands es k e → fs ≡ set es k (record e { status = Taken })) → Joined fs nodes
joined_take {es = es} {nodes = nodes} k j least is =
    let f = position_some (λ w. is_waiting w.status) 0 es k least in
    let at : f.place ≡ k = (let q = f.place_is in omega arith) in
    let s = subst (λ n. Stands es n f.element) at f.stands in
    subst (λ v. Joined v nodes) (sym (is f.element s)) (joined_set k f.element (record f.element { status = Taken }) j s (waiting_turned f.element.status f.passes))

-- A taken entry was let go.
pub joined_let_go : {I : Type 0} {es fs : List (Entry I)} {nodes : List Node} (k : ℕ) → Joined es nodes → TakenEntry k es
    → ((e : Entry I) → Stands es k e → fs ≡ set es k (record e { status = let_go e.status })) → Joined fs nodes
joined_let_go {nodes = nodes} k j t is =
    subst (λ v. Joined v nodes) (sym (is t.entry t.stands)) (joined_set k t.entry (record t.entry { status = let_go t.entry.status }) j t.stands (let_go_turned t.entry.status))

pub joined_put_back : {I : Type 0} {es : List (Entry I)} {nodes : List Node} → Joined es nodes → Joined (map put_back_entry es) nodes
joined_put_back j = joined_map put_back_entry (λ e. put_back_turned e.status) j

turned_back : {s t : Status} → Turned s t → Turned t s
turned_back (lives s t l m) = lives t s m l
turned_back (points to tick since taken mark) = points to since tick mark taken

-- Pointers don't hang on the ticks.
pub leads_clip : {I : Type 0} (b : ℕ) {es : List (Entry I)} {n last : ℕ} → Leads es n last → Leads (map (clip_entry b) es) n last
unfolding AllTurned
leads_clip b leads = leads_turned (λ n e s. (clip_entry b e, stands_map (clip_entry b) s, clip_turned b e.status)) leads

pub leads_unclip : {I : Type 0} (b : ℕ) (es : List (Entry I)) {n last : ℕ} → Leads (map (clip_entry b) es) n last → Leads es n last
unfolding AllTurned
leads_unclip b es leads = leads_turned (λ n e s.
    (let u = stands_unmap (clip_entry b) es n e s in
    (u.0, u.1, subst (λ (w : Entry _). Turned w.status u.0.status) (sym u.2) (turned_back (clip_turned b u.0.status))))) leads

pub joined_clip : {I : Type 0} {es : List (Entry I)} {nodes : List Node} (b : ℕ) → Joined es nodes → Joined (map (clip_entry b) es) nodes
joined_clip b j = joined_map (clip_entry b) (λ e. clip_turned b e.status) j

none_stands : {X : Type 0} {P : Type 0} (n : ℕ) (x : X) → Stands [] n x → P
none_stands n x s = absurd (let q = s.is in cc)

pub joined_empty : {I : Type 0} {es : List (Entry I)} {nodes : List Node} → es ≡ [] → nodes ≡ [] → Joined es nodes
joined_empty {I = I} {es = es} {nodes = nodes} none no_node =
    subst (λ w. Joined w nodes) (sym none) (subst (λ w. Joined {I = I} [] w) (sym no_node) (record {
      many = refl;
      end_of = λ n. n;
      leads = λ n e s. none_stands n e s;
      same = record { up = λ n v s. none_stands n v s; last = λ n v s. none_stands n v s };
    }))

-- Where the walk begins at another number of the class, it ends where it would.
pub leads_by : {I : Type 0} {es seen : List (Entry I)} {nodes : List Node} (from last end : ℕ) → Joined es nodes → seen ≡ es
    → ((label : ℕ → ℕ) → SameInClass label nodes → label last ≡ label from) → from < length es → last < length nodes → Leads seen last end → Leads es from end
leads_by {es = es} {nodes = nodes} from last end j here same within there leads =
    let many = j.many in
    let start = stands_at es from within in
    let next = stands_at es last (omega arith) in
    let walked : Leads es last end = subst (λ w. Leads w last end) here leads in
    let is : j.end_of from ≡ end = sym (same j.end_of j.same) ∙ leads_one (j.leads last next.0 next.1) walked in
    subst (Leads es from) is (j.leads from start.0 start.1)

-- A number in the list is that of an entry that passes.
record Numbered {I : Type 0} (p : Entry I → Bool) (n : ℕ) (es : List (Entry I)) (m : ℕ) : Type 0 where
  place : ℕ
  entry : Entry I
  stands : Stands es place entry
  is : m ≡ n + place
  passed : p entry ≡ true

numbered_next : {I : Type 0} (p : Entry I → Bool) (n : ℕ) (e : Entry I) (es : List (Entry I)) (m : ℕ) → Numbered p (n + 1) es m → Numbered p n (e ∷ es) m
numbered_next p n e es m r = record { place = suc r.place; entry = r.entry; stands = record { is = r.stands.is }; is = (let q = r.is in omega arith); passed = r.passed }

numbered : {I : Type 0} (p : Entry I → Bool) (n : ℕ) (es : List (Entry I)) (k m : ℕ) → Stands (numbers_where p n es) k m → Numbered p n es m
numbered p n [] k m s = absurd (let q = s.is in cc)
numbered p n (e ∷ es) zero m s =
    let more = numbers_where p (n + 1) es in
    elim (p e) as (λ b. p e ≡ b → Stands (cond b (n ∷ more) more) zero m → Numbered p n (e ∷ es) m) [
      | true ↦ λ q t. (let first = t.is in let same : n ≡ m = cc in record { place = 0; entry = e; stands = record { is = refl }; is = omega arith; passed = q })
      | false ↦ λ q t. numbered_next p n e es m (numbered p (n + 1) es zero m t)
    ] refl s
numbered p n (e ∷ es) (suc k) m s =
    let more = numbers_where p (n + 1) es in
    elim (p e) as (λ b. p e ≡ b → Stands (cond b (n ∷ more) more) (suc k) m → Numbered p n (e ∷ es) m) [
      | true ↦ λ q t. numbered_next p n e es m (numbered p (n + 1) es k m (record { is = t.is }))
      | false ↦ λ q t. numbered_next p n e es m (numbered p (n + 1) es (suc k) m t)
    ] refl s

-- The numbers of the entries that are retired are those of entries.
pub covered_within : {I : Type 0} {es : List (Entry I)} {covered others : List ℕ} → SplitsLive covered others es → (k n : ℕ) → Stands covered k n → n < length es
covered_within {es = es} s k n at =
    let p = λ (e : Entry _). is_live e.status && s.test e in
    let r = numbered p 0 es k n (subst (λ w. Stands w k n) s.covered_is at) in
    let within = stands_within r.stands in
    let is = r.is in
    omega arith

-- The live entry of this number passes the test.
hits : {I : Type 0} → (Entry I → Bool) → List (Entry I) → ℕ → Bool
hits test es n = passes (λ e. is_live e.status && test e) (slice_get es n)

-- The end of the pointers, once those live entries are retired by entry `to`.
moved : {I : Type 0} → (Entry I → Bool) → List (Entry I) → ℕ → ℕ → ℕ
moved test es to n = cond (hits test es n) to n

leads_kept : {I : Type 0} (test : Entry I → Bool) (tick : ℕ) (es : List (Entry I)) (w : Entry I) → is_live w.status ≡ true
    → {n last : ℕ} → Leads es n last → Leads (map (goes test (length es) tick) es ++ w ∷ []) n (moved test es (length es) last)
unfolding goes hits moved
leads_kept test tick es w live (ends n e s alive) =
    let to = length es in
    let g = goes test to tick in
    let fs = map g es ++ w ∷ [] in
    let at : Stands fs n (g e) = stands_old (w ∷ []) (stands_map g s) in
    let top : Stands fs to w = subst (λ m. Stands fs m w) (length-map es g) (stands_new (map g es) w) in
    let is : hits test es n ≡ (is_live e.status && test e) = ap (passes (λ v. is_live v.status && test v)) s.is in
    let by : (b : Bool) → (is_live e.status && test e) ≡ b → Leads fs n (cond b to n) = λ b. elim b as (λ t. (is_live e.status && test e) ≡ t → Leads fs n (cond t to n)) [
      | true ↦ λ q. follows n to (g e) to tick (is_taken e.status) at (ap (λ t. (cond t (retired_by to tick e) e).status) q) (ends to w top live)
      | false ↦ λ q. ends n (g e) at (ap (λ t. is_live (cond t (retired_by to tick e) e).status) q ∙ alive)
    ] in
    subst (λ b. Leads fs n (cond b to n)) (sym is) (by (is_live e.status && test e) refl)
leads_kept test tick es w live (follows n last e next since taken s is rest) =
    let to = length es in
    let g = goes test to tick in
    let fs = map g es ++ w ∷ [] in
    let at : Stands fs n (g e) = stands_old (w ∷ []) (stands_map g s) in
    let dead : (is_live e.status && test e) ≡ false = ap (λ t. is_live t && test e) is in
    let stays : (g e).status ≡ Retired next since taken = ap (λ t. (cond t (retired_by to tick e) e).status) dead ∙ is in
    follows n (moved test es to last) (g e) next since taken at stays (leads_kept test tick es w live rest)

-- The label of an entry, once an item is kept as entry `to`.
kept_end : {I : Type 0} → (Entry I → Bool) → List (Entry I) → (ℕ → ℕ) → ℕ → ℕ
kept_end test es end_of = with_own (λ n. moved test es (length es) (end_of n)) (length es) (length es)

kept_end_old : {I : Type 0} (test : Entry I → Bool) (es : List (Entry I)) (end_of : ℕ → ℕ) (n : ℕ) → n < length es → kept_end test es end_of n ≡ moved test es (length es) (end_of n)
unfolding kept_end
kept_end_old test es end_of n h = ap (λ b. cond b (moved test es (length es) (end_of n)) (length es)) (lt-ltb n (length es) h)

kept_end_new : {I : Type 0} (test : Entry I → Bool) (es : List (Entry I)) (end_of : ℕ → ℕ) → kept_end test es end_of (length es) ≡ length es
unfolding kept_end
kept_end_new test es end_of = ap (λ b. cond b (moved test es (length es) (end_of (length es))) (length es)) (le-ltb (length es) (length es) (omega arith))

leads_end : {I : Type 0} {es : List (Entry I)} {nodes : List Node} (test : Entry I → Bool) (tick : ℕ) (w : Entry I) → is_live w.status ≡ true → (j : Joined es nodes)
    → (n : ℕ) (f : Entry I) → Stands (map (goes test (length es) tick) es ++ w ∷ []) n f → Leads (map (goes test (length es) tick) es ++ w ∷ []) n (kept_end test es j.end_of n)
leads_end {es = es} test tick w live j n f s =
    let to = length es in
    let g = goes test to tick in
    let fs = map g es ++ w ∷ [] in
    elim (stands_append (map g es) w n f s) [
      | inl a ↦
          (let u = stands_unmap g es n f a in
          let within = stands_within u.1 in
          subst (λ m. Leads fs n m) (sym (kept_end_old test es j.end_of n within)) (leads_kept test tick es w live (j.leads n u.0 u.1)))
      | inr b ↦
          (let at : n ≡ to = b.0 ∙ length-map es g in
          let top : Stands fs to w = subst (λ m. Stands fs m w) (length-map es g) (stands_new (map g es) w) in
          subst (λ m. Leads fs m (kept_end test es j.end_of m)) (sym at) (subst (λ m. Leads fs to m) (sym (kept_end_new test es j.end_of)) (ends to w top live)))
    ]

-- The end of the pointers of an entry that is retired.
covered_end : {I : Type 0} {es : List (Entry I)} {nodes : List Node} (p : Entry I → Bool) (j : Joined es nodes) (n : ℕ) → Numbered (λ e. is_live e.status && p e) 0 es n
    → kept_end p es j.end_of n ≡ length es
unfolding hits moved
covered_end {es = es} p j n r =
    let at : r.place ≡ n = (let q = r.is in omega arith) in
    let s : Stands es n r.entry = subst (λ m. Stands es m r.entry) at r.stands in
    let within = stands_within s in
    let live = (both_true (is_live r.entry.status) (p r.entry) r.passed).0 in
    let own : j.end_of n ≡ n = leads_one (j.leads n r.entry s) (ends n r.entry s live) in
    let hit : hits p es n ≡ true = ap (passes (λ v. is_live v.status && p v)) s.is ∙ r.passed in
    kept_end_old p es j.end_of n within ∙ ap (moved p es (length es)) own ∙ ap (λ b. cond b (length es) n) hit

-- An item was kept as entry `to`, and the classes of what it retires were joined with its own.
pub joined_keep : {I : Type 0} {es fs pushed : List (Entry I)} {before added after : List Node} {covered others : List ℕ} (seen joins : List ℕ) (to tick : ℕ) (w : Entry I) (x : I) (origin : Origin)
    → Joined es before → to ≡ length es → (s : SplitsLive covered others es) → seen ≡ covered → joins ≡ covered
    → w ≡ record { item = x; origin = origin; status = Waiting } → pushed ≡ es ++ w ∷ [] → fs ≡ retire_each to tick seen pushed
    → length added ≡ length before + 1 → ((label : ℕ → ℕ) (own : ℕ) → SameInClass label before → SameInClass (with_own label (length before) own) added)
    → length after ≡ length added → ((label : ℕ → ℕ) → SameInClass label added → ((k n : ℕ) → Stands joins k n → label n ≡ label to) → SameInClass label after)
    → Joined fs after
unfolding kept_end
joined_keep {es = es} {fs = fs} {pushed = pushed} {before = before} {added = added} {after = after} {covered = covered} {others = others} seen joins to tick w x origin j at s same joined fresh push retired longer grow as_long join =
    let new : Entry _ = record { item = x; origin = origin; status = Waiting } in
    let turned = map (goes s.test (length es) tick) es ++ new ∷ [] in
    let all : fs ≡ turned =
    retired ∙ ap (λ n. retire_each n tick seen pushed) at ∙ ap (λ v. retire_each (length es) tick v pushed) same
    ∙ ap (λ v. retire_each (length es) tick covered v) (push ∙ ap (λ v. es ++ v ∷ []) fresh) ∙ goes_all (length es) tick covered others x origin es s in
    let label : ℕ → ℕ = λ n. moved s.test es (length es) (j.end_of n) in
    let old : SameInClass label before = record {
      up = λ n v t. ap (moved s.test es (length es)) (j.same.up n v t);
      last = λ n v t. ap (moved s.test es (length es)) (j.same.last n v t);
    } in
    let end = kept_end s.test es j.end_of in
    let grown : SameInClass end added = subst (λ m. SameInClass (with_own label m (length es)) added) j.many (grow label (length es) old) in
    let ends_there : (k n : ℕ) → Stands joins k n → end n ≡ end to = λ k n t.
    covered_end s.test j n (numbered (λ e. is_live e.status && s.test e) 0 es k n (subst (λ v. Stands v k n) (joined ∙ s.covered_is) t)) ∙ sym (ap end at ∙ kept_end_new s.test es j.end_of) in
    let many : length turned ≡ length es + 1 =
    (let a = length-append (map (goes s.test (length es) tick) es) (new ∷ []) in let b = length-map es (goes s.test (length es) tick) in omega arith) in
    subst (λ v. Joined v after) (sym all) (record {
      many = (let a = j.many in omega arith);
      end_of = end;
      leads = leads_end s.test tick new refl j;
      same = join end grown ends_there;
    })
