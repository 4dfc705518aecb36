-- Each step keeps the facts on entries, and every history does.
use Rattle.std.proofs.Common.{◌≡◌, inl, inr, ℕ, zero, suc, ◌+◌, ◌≤◌, Bool, true, false, ◌&&◌, List, [], ◌∷◌, ◌++◌, length, map, set, Option, None, Some, Ok, refl, sym, ◌∙◌, subst, arith, length-append}
use Rattle.fold_core.specs.declared.event.Placed.{Placed}
use Rattle.fold_core.specs.declared.event.Placed.TheVariants.{Kept, Folded}
use Rattle.fold_core.specs.declared.event.Origin.{Origin}
use Rattle.fold_core.specs.declared.event.Origin.TheVariants.{Root as FromRoot, Child}
use Rattle.fold_core.specs.declared.event.Status.{Status}
use Rattle.fold_core.specs.declared.event.Status.TheVariants.{Waiting, Taken, Finished, Retired}
use Rattle.fold_core.specs.declared.event.Event.{Event}
use Rattle.fold_core.specs.Rules.{Rules, Lawful}
use Rattle.fold_core.specs.Machine.{Entry, Core, Stands, is_live, is_waiting, LiveCover, least_cover, overtaken, kept, placed, Accepts, place_at, place_of, Settles, settled, settles, Expanding, MayTake, let_go, put_back, put_back_entry, Step, root, take, insert, finish, halt, reset, After, begin, more}
use Rattle.fold_core.specs.Facts.{Covered, Expanded, Springs}
use Rattle.fold_core.proofs.Places.{stands_one, stands_within, position_some, position_none}
use Rattle.fold_core.proofs.Keeping.{fresh, outcome, outcome_item, kept_old, kept_new, covered_kept, Twin, Turned, set_turned, map_turned}
use Rattle.fold_core.proofs.Soundness.{Uncovered, Sound, sound_kept, sound_turned}

-- Where there is no least cover there is none.
pub uncovered_none : {I : Type 0} (r : Rules I) (x : I) (es : List (Entry I)) → least_cover r x es ≡ None → Uncovered r x es
uncovered_none r x es e = record {
  none = λ n d s live covers.
      (let p = position_none (λ w. is_live w.status && r.covers w.item x) 0 es e n d s in
      absurd (by (is_live d.status) (r.covers d.item x) live covers p));
}
  where
    by : (a b : Bool) → a ≡ true → b ≡ true → (a && b) ≡ false → ⊥
    by true true p q s = cc
    by true false p q s = cc
    by false b p q s = cc

-- The least cover is a live entry that covers the item.
pub cover_some : {I : Type 0} (r : Rules I) (x : I) (es : List (Entry I)) (n : ℕ) → least_cover r x es ≡ Some n → LiveCover r x n es
cover_some r x es n e =
    let f = position_some (λ w. is_live w.status && r.covers w.item x) 0 es n e in
    let at : f.place ≡ n = (let q = f.place_is in omega arith) in
    let both = by (is_live f.element.status) (r.covers f.element.item x) f.passes in
    record { entry = f.element; stands = subst (λ k. Stands es k f.element) at f.stands; live = both.0; covers = both.1 }
  where
    by : (a b : Bool) → (a && b) ≡ true → (a ≡ true) × (b ≡ true)
    by true true q = (refl, refl)
    by true false q = absurd (cc)
    by false b q = absurd (cc)

pub accepts_place : {I : Type 0} (r : Rules I) (x : I) (p : Placed) (c : Core I) → p ≡ place_of r x c → Accepts r x p c
accepts_place r x p c e = subst (λ w. Accepts r x w c) (sym e) (by (least_cover r x c.entries) refl)
  where
    by : (o : Option ℕ) → least_cover r x c.entries ≡ o → Accepts r x (place_at o (length c.entries)) c
    by None q = (refl, q)
    by (Some n) q = cover_some r x c.entries n q

-- Once an item is placed it is covered.
pub placed_covered : {I : Type 0} {r : Rules I} → Lawful r → (tick : ℕ) (x : I) (origin : Origin) (p : Placed) (c : Core I)
    → Accepts r x p c → Covered r x (placed r tick x origin p c).entries
placed_covered {r = r} law tick x origin (Kept n) c a = record {
  by = length c.entries;
  cover = record {
    entry = fresh x origin;
    stands = kept_new r tick x origin c;
    live = refl;
    covers = law.reflexive x;
  };
}
placed_covered law tick x origin (Folded n) c a = record { by = n; cover = a }

pub sound_placed : {I : Type 0} {r : Rules I} → Lawful r → (roots : List I) (tick : ℕ) (x : I) (origin : Origin) (p : Placed) (c : Core I)
    → Accepts r x p c → Springs r roots c.entries (length c.entries) x origin
    → Sound r roots tick c.entries → Sound r roots tick (placed r tick x origin p c).entries
sound_placed {r = r} law roots tick x origin (Kept n) c a new old = sound_kept law roots tick x origin c (uncovered_none r x c.entries a.1) new old
sound_placed law roots tick x origin (Folded n) c a new old = old

-- What each kept item keeps, and what no folded item changes, a placed item keeps.
pub placed_keeps : {I : Type 0} (r : Rules I) (tick : ℕ) (P : Core I → Type 0) → ((x : I) (origin : Origin) (c : Core I) → P c → P (kept r tick x origin c))
    → (x : I) (origin : Origin) (p : Placed) (c : Core I) → P c → P (placed r tick x origin p c)
placed_keeps r tick P keeps x origin (Kept n) c old = keeps x origin c old
placed_keeps r tick P keeps x origin (Folded n) c old = old

-- So do all children of an expansion.
pub settles_keeps : {I : Type 0} {r : Rules I} {tick parent k : ℕ} {xs : List I} {ps : List Placed} {c d : Core I}
    (P : Core I → Type 0) → ((x : I) (origin : Origin) (c : Core I) → P c → P (kept r tick x origin c))
    → Settles r tick parent k xs ps c d → P c → P d
settles_keeps P keeps (settled k c) old = old
settles_keeps {r = r} {tick = tick} {parent = parent} P keeps (settles k x xs p ps c d a rest) old = settles_keeps P keeps rest (placed_keeps r tick P keeps x (Child parent k) p c old)

-- Entry n has this item.
pub record ItemAt {I : Type 0} (n : ℕ) (x : I) (c : Core I) : Type 0 where
  pub entry : Entry I
  pub stands : Stands c.entries n entry
  pub item_is : entry.item ≡ x

pub item_kept : {I : Type 0} (r : Rules I) (tick : ℕ) {n : ℕ} {y : I} (x : I) (origin : Origin) (c : Core I) → ItemAt n y c → ItemAt n y (kept r tick x origin c)
item_kept r tick x origin c old = record {
  entry = overtaken r x (length c.entries) tick old.entry;
  stands = kept_old r tick x origin c old.stands;
  item_is = outcome_item (outcome r x (length c.entries) tick old.entry) ∙ old.item_is;
}

-- What placing the children of an expansion gives.
pub record SettledWell {I : Type 0} (r : Rules I) (roots : List I) (tick : ℕ) (xs : List I) (d : Core I) : Type 0 where
  pub sound : Sound r roots tick d.entries
  pub covered : (j : ℕ) (y : I) → Stands xs j y → Covered r y d.entries

pub settles_well : {I : Type 0} {r : Rules I} {tick parent k : ℕ} {xs : List I} {ps : List Placed} {c d : Core I} → Lawful r
    → (roots children : List I) (y : I) → r.expansion y ≡ Ok children → ((j : ℕ) (x : I) → Stands xs j x → Stands children (k + j) x)
    → Settles r tick parent k xs ps c d → ItemAt parent y c → Sound r roots tick c.entries → SettledWell r roots tick xs d
settles_well law roots children y expands among (settled k c) at old = record { sound = old; covered = λ j x s. absurd (let e = s.is in cc) }
settles_well {r = r} {tick = tick} {parent = parent} law roots children y expands among (settles k x xs p ps c d a rest) at old =
    let here : Stands children k x = (let q : k + 0 ≡ k = omega arith in subst (λ w. Stands children w x) q (among 0 x (record { is = refl }))) in
    let new : Springs r roots c.entries (length c.entries) x (Child parent k) = record {
      entry = at.entry;
      stands = at.stands;
      earlier = stands_within at.stands;
      children = children;
      expands = subst (λ w. r.expansion w ≡ Ok children) (sym at.item_is) expands;
      is_child = here;
    } in
    let sound = sound_placed law roots tick x (Child parent k) p c a new old in
    let first = placed_covered law tick x (Child parent k) p c a in
    let among' = λ (j : ℕ) (z : _) (s : Stands xs j z).
    (let q : k + suc j ≡ k + 1 + j = omega arith in subst (λ w. Stands children w z) q (among (suc j) z (record { is = s.is }))) in
    let well = settles_well law roots children y expands among' rest (placed_keeps r tick (ItemAt parent y) (item_kept r tick) x (Child parent k) p c at) sound in
    record {
      sound = well.sound;
      covered = λ j z s. by (settles_keeps (λ w. Covered r x w.entries) (λ u o w q. covered_kept law tick u o w q) rest first) well.covered j z s;
    }
  where
    by : Covered r x d.entries → ((j : ℕ) (z : _) → Stands xs j z → Covered r z d.entries) → (j : ℕ) (z : _) → Stands (x ∷ xs) j z → Covered r z d.entries
    by first others zero z s = let e = s.is in let same : x ≡ z = cc in subst (λ w. Covered r w d.entries) same first
    by first others (suc j) z s = others j z (record { is = s.is })

-- The status turns of the events.
pub taken_twin : {I : Type 0} (r : Rules I) (es : List (Entry I)) (e : Entry I) → is_waiting e.status ≡ true → Twin r es e (record e { status = Taken })
taken_twin r es e w = record {
  item = refl;
  origin = refl;
  live = sym (by e.status w);
  retired = λ to tick taken q. absurd (cc);
  finished = λ q. absurd (cc);
}
  where
    by : (s : Status) → is_waiting s ≡ true → is_live s ≡ true
    by Waiting q = refl
    by Taken q = refl
    by Finished q = refl
    by (Retired to tick taken) q = q

pub let_go_twin : {I : Type 0} (r : Rules I) (es : List (Entry I)) (e : Entry I) → Expanded r e.item es → Twin r es e (record e { status = let_go e.status })
let_go_twin r es e done = record {
  item = refl;
  origin = refl;
  live = live e.status;
  retired = λ to tick taken q. retired e.status to tick taken q;
  finished = λ q. inr done;
}
  where
    live : (s : Status) → is_live (let_go s) ≡ is_live s
    live Waiting = refl
    live Taken = refl
    live Finished = refl
    live (Retired to tick taken) = refl

    retired : (s : Status) (to tick : ℕ) (taken : Bool) → let_go s ≡ Retired to tick taken → (before : Bool) × (s ≡ Retired to tick before)
    retired Waiting to tick taken q = absurd (cc)
    retired Taken to tick taken q = absurd (cc)
    retired Finished to tick taken q = absurd (cc)
    retired (Retired to' tick' before) to tick taken q = (before, cc)

pub put_back_twin : {I : Type 0} (r : Rules I) (es : List (Entry I)) (e : Entry I) → Twin r es e (put_back_entry e)
put_back_twin r es e = record {
  item = refl;
  origin = refl;
  live = live e.status;
  retired = λ to tick taken q. retired e.status to tick taken q;
  finished = λ q. inl (finished e.status q);
}
  where
    live : (s : Status) → is_live (put_back s) ≡ is_live s
    live Waiting = refl
    live Taken = refl
    live Finished = refl
    live (Retired to tick taken) = refl

    retired : (s : Status) (to tick : ℕ) (taken : Bool) → put_back s ≡ Retired to tick taken → (before : Bool) × (s ≡ Retired to tick before)
    retired Waiting to tick taken q = absurd (cc)
    retired Taken to tick taken q = absurd (cc)
    retired Finished to tick taken q = absurd (cc)
    retired (Retired to' tick' before) to tick taken q = (before, cc)

    finished : (s : Status) → put_back s ≡ Finished → s ≡ Finished
    finished Waiting q = absurd (cc)
    finished Taken q = absurd (cc)
    finished Finished q = refl
    finished (Retired to tick taken) q = absurd (cc)

-- What the entry of an expansion is once its children are placed.
pub expanded_at_finish : {I : Type 0} {r : Rules I} {tick n : ℕ} {ps : List Placed} {children : List I} {c d : Core I} {e : Entry I} → Lawful r
    → (roots : List I) → Expanding r n children c → Settles r tick n 0 children ps c d → Stands d.entries n e → Sound r roots tick c.entries
    → Sound r roots tick d.entries × Expanded r e.item d.entries
expanded_at_finish {r = r} {tick = tick} {n = n} {children = children} {c = c} law roots x s t old =
    let at : ItemAt n x.entry.item c = record { entry = x.entry; stands = x.stands; item_is = refl } in
    let among = λ (j : ℕ) (z : _) (q : Stands children j z). (let zero_is : j ≡ 0 + j = omega arith in subst (λ w. Stands children w z) zero_is q) in
    let well = settles_well law roots children x.entry.item x.expands among s at old in
    let last = settles_keeps (ItemAt n x.entry.item) (item_kept r tick) s at in
    let same = stands_one last.stands t in (
      well.sound,
      record {
        children = children;
        expands = subst (λ w. r.expansion w.item ≡ Ok children) same (subst (λ w. r.expansion w ≡ Ok children) (sym last.item_is) x.expands);
        covered = well.covered;
      },
    )

pub take_turned : {I : Type 0} (r : Rules I) {budget n : ℕ} {e : Entry I} {c : Core I} → MayTake budget n e c → Turned r c.entries (set c.entries n (record e { status = Taken }))
take_turned r {n = n} {c = c} may =
    let f = position_some (λ w. is_waiting w.status) 0 c.entries n may.least in
    let at : f.place ≡ n = (let q = f.place_is in omega arith) in
    let same = stands_one (subst (λ k. Stands c.entries k f.element) at f.stands) may.stands in
    set_turned may.stands (taken_twin r c.entries _ (subst (λ w. is_waiting w.status ≡ true) same f.passes))

pub finish_turned : {I : Type 0} {r : Rules I} {tick n : ℕ} {ps : List Placed} {children : List I} {c d : Core I} {e : Entry I} → Lawful r
    → (roots : List I) → Expanding r n children c → Settles r tick n 0 children ps c d → Stands d.entries n e → Sound r roots tick c.entries
    → Turned r d.entries (set d.entries n (record e { status = let_go e.status }))
finish_turned {r = r} {d = d} {e = e} law roots x s t old = set_turned t (let_go_twin r d.entries e (expanded_at_finish law roots x s t old).1)

pub reset_turned : {I : Type 0} (r : Rules I) (es : List (Entry I)) → Turned r es (map put_back_entry es)
reset_turned r es = map_turned es put_back_entry (put_back_twin r es)

pub sound_step : {I : Type 0} {r : Rules I} {roots : List I} {budget : ℕ} {before : List Event} {c d : Core I} {event : Event} → Lawful r
    → Step r roots budget before c event d → Sound r roots (length before) c.entries → Sound r roots (length before) d.entries
sound_step {r = r} {roots = roots} {before = before} {c = c} law (root number p x next is) old =
    sound_placed law roots (length before) x (FromRoot number) p c (accepts_place r x p c is) next.root old
sound_step {r = r} law (take n e may) old = sound_turned (take_turned r may) old
sound_step {r = r} {roots = roots} {before = before} {c = c} law (insert parent child p children x e s is) old =
    sound_placed law roots (length before) x (Child parent child) p c (accepts_place r x p c is)
    (record { entry = e.entry; stands = e.stands; earlier = stands_within e.stands; children = children; expands = e.expands; is_child = s }) old
sound_step {roots = roots} law (finish n ps children d e x s t) old = sound_turned (finish_turned law roots x s t old) (expanded_at_finish law roots x s t old).0
sound_step law (halt n why free x) old = old
sound_step {r = r} {c = c} law reset old = sound_turned (reset_turned r c.entries) old

-- Pointers stay as they are as time goes on.
later_on : {I : Type 0} {r : Rules I} {roots : List I} {es : List (Entry I)} (now later : ℕ) → now ≤ later → Sound r roots now es → Sound r roots later es
later_on now later after old = record {
  pointers = λ n e to tick taken s q. (let o = old.pointers n e to tick taken s q in let h = o.0 in (omega arith, o.1));
  no_double = old.no_double;
  origins = old.origins;
  handled = old.handled;
}

pub sound_after : {I : Type 0} {r : Rules I} {roots : List I} {budget : ℕ} {history : List Event} {c : Core I} → Lawful r
    → After r roots budget history c → Sound r roots (length history) c.entries
sound_after law begin = record {
  pointers = λ n e to tick taken s q. absurd (let h = s.is in cc);
  no_double = λ m n d e s t u v w. absurd (let h = s.is in cc);
  origins = λ n e s. absurd (let h = s.is in cc);
  handled = λ n e s q. absurd (let h = s.is in cc);
}
sound_after law (more before c event d a step) =
    later_on (length before) (length (before ++ event ∷ [])) (omega (arith, length-append before (event ∷ []))) (sound_step law step (sound_after law a))
