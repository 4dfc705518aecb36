-- Ticks that are brought down to a bound: nothing else changes.
use Rattle.std.proofs.Common.{◌≡◌, ℕ, zero, suc, ◌+◌, ◌≤◌, Bool, true, false, ◌&&◌, cond, min, List, [], ◌∷◌, ◌++◌, length, map, take, Some, refl, ap, sym, ◌∙◌, arith}
use Rattle.std.proofs.lemmas.List.{length-map}
use Rattle.std.proofs.lemmas.List.Sums.{sum_by-cons}
use Rattle.std.specs.List.{position_from}
use Rattle.fold_core.specs.declared.event.Placed.{Placed}
use Rattle.fold_core.specs.declared.event.Placed.TheVariants.{Kept, Folded}
use Rattle.fold_core.specs.declared.event.Origin.{Origin}
use Rattle.fold_core.specs.declared.event.Status.{Status}
use Rattle.fold_core.specs.declared.event.Status.TheVariants.{Waiting, Taken, Finished, Retired}
use Rattle.fold_core.specs.Rules.{Rules}
use Rattle.fold_core.specs.Machine.{Entry, Core, Stands, is_live, is_waiting, is_taken, least_cover, overtaken, first_found, placed, Accepts}
use Rattle.fold_core.proofs.Places.{stands_map, stands_unmap}
use Rattle.fold_core.proofs.Counting.{taken_map}
use Rattle.fold_store.specs.Table.{Indexed, clip_status, clip_entry, TicksWithin}
use Rattle.fold_store.specs.Store.{owed_by, owed, clipped}
use Rattle.fold_store.proofs.Numbers.{numbers_map}

pub clip_live : (b : ℕ) (s : Status) → is_live (clip_status b s) ≡ is_live s
clip_live b Waiting = refl
clip_live b Taken = refl
clip_live b Finished = refl
clip_live b (Retired to tick taken) = refl

pub clip_taken : (b : ℕ) (s : Status) → is_taken (clip_status b s) ≡ is_taken s
clip_taken b Waiting = refl
clip_taken b Taken = refl
clip_taken b Finished = refl
clip_taken b (Retired to tick taken) = refl

clip_waiting : (b : ℕ) (s : Status) → is_waiting (clip_status b s) ≡ is_waiting s
clip_waiting b Waiting = refl
clip_waiting b Taken = refl
clip_waiting b Finished = refl
clip_waiting b (Retired to tick taken) = refl

pub clip_owed : (b : ℕ) (s : Status) → owed_by (clip_status b s) ≡ owed_by s
clip_owed b Waiting = refl
clip_owed b Taken = refl
clip_owed b Finished = refl
clip_owed b (Retired to tick taken) = refl

pub owed_clip : {I : Type 0} (b : ℕ) (es : List (Entry I)) → owed (map (clip_entry b) es) ≡ owed es
owed_clip b [] = refl
owed_clip b (e ∷ es) =
    let now = sum_by-cons (λ w. owed_by w.status) (clip_entry b e) (map (clip_entry b) es) in
    let before = sum_by-cons (λ w. owed_by w.status) e es in
    let rest = owed_clip b es in
    let head = clip_owed b e.status in
    omega arith

pub indexed_clip : {I : Type 0} (b : ℕ) (es : List (Entry I)) (live : List ℕ) (first taken : ℕ) → Indexed es live first taken → Indexed (map (clip_entry b) es) live first taken
indexed_clip b es live first taken i = record {
  few = (let n = length-map es (clip_entry b) in let h = i.few in omega arith);
  live_is = i.live_is ∙ sym (numbers_map (λ w. is_live w.status) (λ w. is_live w.status) (clip_entry b) (λ e. clip_live b e.status) 0 es);
  none_waits = record {
    none = λ m d h t.
        (let u = stands_unmap (clip_entry b) es m d t in ap (λ v. is_waiting v.status) u.2 ∙ clip_waiting b u.0.status ∙ i.none_waits.none m u.0 h u.1);
  };
  first_within = (let n = length-map es (clip_entry b) in let h = i.first_within in omega arith);
  taken_is = (let t = taken_map (clip_entry b) (λ e. clip_taken b e.status) es in let h = i.taken_is in omega arith);
}

position_map : {X : Type 0} (p q : X → Bool) (g : X → X) → ((x : X) → p (g x) ≡ q x) → (n : ℕ) (xs : List X) → position_from p n (map g xs) ≡ position_from q n xs
position_map p q g same n [] = refl
position_map p q g same n (x ∷ xs) =
    ap (λ b. cond b (Some n) (position_from p (n + 1) (map g xs))) (same x) ∙ ap (λ o. cond (q x) (Some n) o) (position_map p q g same (n + 1) xs)

pub cover_clip : {I : Type 0} (r : Rules I) (x : I) (b : ℕ) (es : List (Entry I)) → least_cover r x (map (clip_entry b) es) ≡ least_cover r x es
cover_clip r x b es = position_map (λ e. is_live e.status && r.covers e.item x) (λ e. is_live e.status && r.covers e.item x) (clip_entry b)
    (λ e. ap (λ l. l && r.covers e.item x) (clip_live b e.status)) 0 es

clip_overtaken : {I : Type 0} (r : Rules I) (x : I) (n tick b : ℕ) (e : Entry I) → b ≤ tick → clip_entry b (overtaken r x n tick e) ≡ overtaken r x n b (clip_entry b e)
clip_overtaken r x n tick b e past =
    let low : min tick b ≡ b = omega arith in
    let gone : Entry _ = record e { status = Retired n b (is_taken (clip_status b e.status)) } in
    let by : clip_entry b (cond (is_live e.status && r.covers x e.item) (record e { status = Retired n tick (is_taken e.status) }) e) ≡ cond (is_live e.status && r.covers x e.item) gone (clip_entry b e) =
    elim (is_live e.status && r.covers x e.item) as (λ t. clip_entry b (cond t (record e { status = Retired n tick (is_taken e.status) }) e) ≡ cond t gone (clip_entry b e)) [
      | true ↦ ap (λ m. record e { status = Retired n m (is_taken e.status) }) low ∙ ap (λ t. record e { status = Retired n b t }) (sym (clip_taken b e.status))
      | false ↦ refl
    ] in
    by ∙ ap (λ l. cond (l && r.covers x e.item) gone (clip_entry b e)) (sym (clip_live b e.status))

clip_pushed : {I : Type 0} (r : Rules I) (x : I) (n tick b : ℕ) (es : List (Entry I)) (w : Entry I) → b ≤ tick
    → map (clip_entry b) (map (overtaken r x n tick) es ++ w ∷ []) ≡ map (overtaken r x n b) (map (clip_entry b) es) ++ clip_entry b w ∷ []
clip_pushed r x n tick b [] w past = refl
clip_pushed r x n tick b (e ∷ es) w past =
    ap (λ v. v ∷ map (clip_entry b) (map (overtaken r x n tick) es ++ w ∷ [])) (clip_overtaken r x n tick b e past)
    ∙ ap (λ vs. overtaken r x n b (clip_entry b e) ∷ vs) (clip_pushed r x n tick b es w past)

-- To place an item and then bring the ticks down is to bring them down and place it.
pub clipped_placed : {I : Type 0} (r : Rules I) (tick b : ℕ) (x : I) (origin : Origin) (p : Placed) (c : Core I) → b ≤ tick
    → clipped b (placed r tick x origin p c) ≡ placed r b x origin p (clipped b c)
clipped_placed r tick b x origin (Folded n) c past = refl
clipped_placed r tick b x origin (Kept n) c past =
    let w : Entry _ = record { item = x; origin = origin; status = Waiting } in
    let g = clip_entry b in
    ap (λ es. record { entries = es; found = first_found c.found (r.initial x) (length c.entries); halted = c.halted; finished = c.finished })
    (clip_pushed r x (length c.entries) tick b c.entries w past)
    ∙ ap (λ m. record { entries = map (overtaken r x m b) (map g c.entries) ++ w ∷ []; found = first_found c.found (r.initial x) m; halted = c.halted; finished = c.finished })
    (sym (length-map c.entries g))

pub accepts_clip : {I : Type 0} (r : Rules I) (b : ℕ) (x : I) (p : Placed) (c : Core I) → Accepts r x p c → Accepts r x p (clipped b c)
accepts_clip r b x (Kept n) c a = (a.0 ∙ sym (length-map c.entries (clip_entry b)), cover_clip r x b c.entries ∙ a.1)
accepts_clip r b x (Folded n) c a = record {
  entry = clip_entry b a.entry;
  stands = stands_map (clip_entry b) a.stands;
  live = clip_live b a.entry.status ∙ a.live;
  covers = a.covers;
}

clip_status_same : (b : ℕ) (s : Status) → ((to tick : ℕ) (taken : Bool) → s ≡ Retired to tick taken → tick ≤ b) → clip_status b s ≡ s
clip_status_same b Waiting below = refl
clip_status_same b Taken below = refl
clip_status_same b Finished below = refl
clip_status_same b (Retired to tick taken) below =
    let h = below to tick taken refl in
    let low : min tick b ≡ tick = omega arith in
    ap (λ m. Retired to m taken) low

-- Where no tick is past the bound, nothing changes.
pub clip_none : {I : Type 0} (b : ℕ) (es : List (Entry I)) → ((n : ℕ) (e : Entry I) (to tick : ℕ) (taken : Bool) → Stands es n e → e.status ≡ Retired to tick taken → tick ≤ b)
    → map (clip_entry b) es ≡ es
clip_none b [] below = refl
clip_none b (e ∷ es) below =
    let head : clip_entry b e ≡ e = ap (λ s. record e { status = s }) (clip_status_same b e.status (λ to tick taken q. below 0 e to tick taken (record { is = refl }) q)) in
    ap (λ w. w ∷ map (clip_entry b) es) head ∙ ap (λ ws. e ∷ ws) (clip_none b es (λ n d to tick taken s q. below (suc n) d to tick taken (record { is = s.is }) q))

-- Where there is nothing past the start, nothing is brought down.
pub down_to : {I : Type 0} (start many : ℕ) (es : List (Entry I)) → TicksWithin many es → many ≤ start → es ≡ map (clip_entry start) es
down_to start many es t h = sym (clip_none start es (λ n e to tick taken s q. (let w = t.within n e to tick taken s q in omega arith)))

pub take_past : {X : Type 0} (xs : List X) (k : ℕ) → length xs ≤ k → xs ≡ take k xs
take_past [] zero h = refl
take_past [] (suc k) h = refl
take_past (x ∷ xs) zero h = absurd (omega arith)
take_past (x ∷ xs) (suc k) h = ap (λ w. x ∷ w) (take_past xs k (omega arith))
