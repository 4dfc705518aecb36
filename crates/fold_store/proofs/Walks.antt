-- Walks over the live entries and along the pointers.
use Rattle.std.proofs.Common.{◌≡◌, ℕ, ◌↔◌, Bool, true, false, ◌&&◌, not, List, Option, None, Some, IsTrue, refl, ap, sym, ◌∙◌, subst}
use Rattle.std.specs.List.{position_from}
use Rattle.fold_core.specs.declared.event.Status.{Status}
use Rattle.fold_core.specs.declared.event.Status.TheVariants.{Waiting, Taken, Finished, Retired}
use Rattle.fold_core.specs.Rules.{Rules, Lawful}
use Rattle.fold_core.specs.Machine.{Entry, Stands, is_live, LiveCover}
use Rattle.fold_core.specs.Facts.{Pointers, Leads, ends, follows}
use Rattle.fold_core.proofs.Places.{stands_one, stands_within, position_some, position_none}
use Rattle.fold_core.proofs.Histories.{chains_of}
use Rattle.fold_store.specs.Table.{live_numbers, first_passing, is_finished, unfinished_at, AllFinished, PointsForward}
use Rattle.fold_store.proofs.Numbers.{first_numbers}

finished_yes : (s : Status) → is_finished s ≡ true → s ≡ Finished
finished_yes Waiting e = absurd (cc)
finished_yes Taken e = absurd (cc)
finished_yes Finished e = refl
finished_yes (Retired to tick taken) e = absurd (cc)

not_false : (b : Bool) → not b ≡ false → b ≡ true
not_false true e = refl
not_false false e = absurd (cc)

and_right : (a b : Bool) → a ≡ true → (a && b) ≡ false → b ≡ false
and_right true b p q = q
and_right false b p q = absurd (cc)

pub both_true : (a b : Bool) → (a && b) ≡ true → (a ≡ true) × (b ≡ true)
both_true true b p = (refl, p)
both_true false b p = absurd (cc)

-- No live entry is unfinished exactly where each is finished.
finished_all : {I : Type 0} (es : List (Entry I)) → position_from (λ e. is_live e.status && not (is_finished e.status)) 0 es ≡ None → AllFinished es
finished_all es none = record {
  finished = λ n e s live.
      (let fails = position_none (λ w. is_live w.status && not (is_finished w.status)) 0 es none n e s in
      finished_yes e.status (not_false (is_finished e.status) (and_right (is_live e.status) (not (is_finished e.status)) live fails)));
}

finished_none : {I : Type 0} (es : List (Entry I)) → AllFinished es → position_from (λ e. is_live e.status && not (is_finished e.status)) 0 es ≡ None
finished_none es all = by (position_from (λ e. is_live e.status && not (is_finished e.status)) 0 es) refl
  where
    by : (o : Option ℕ) → position_from (λ e. is_live e.status && not (is_finished e.status)) 0 es ≡ o → o ≡ None
    by None e = refl
    by (Some n) e =
        let f = position_some (λ w. is_live w.status && not (is_finished w.status)) 0 es n e in
        let p = both_true (is_live f.element.status) (not (is_finished f.element.status)) f.passes in
        let done = all.finished f.place f.element f.stands p.0 in
        let no_more : not (is_finished f.element.status) ≡ false = ap (λ s. not (is_finished s)) done in
        let still = p.1 in
        absurd (cc)

pub all_finished_by : {I : Type 0} (es seen : List (Entry I)) (live live_seen : List ℕ) (b : Bool) → seen ≡ es → live_seen ≡ live → live ≡ live_numbers es
    → (IsTrue b ↔ (first_passing (unfinished_at seen) live_seen ≡ None)) → (IsTrue b ↔ AllFinished es)
all_finished_by es seen live live_seen b same same_live is given =
    let e : first_passing (unfinished_at seen) live_seen ≡ position_from (λ w. is_live w.status && not (is_finished w.status)) 0 es =
    ap (λ w. first_passing (unfinished_at w) live_seen) same ∙ ap (first_passing (unfinished_at es)) (same_live ∙ is)
    ∙ first_numbers (λ w. is_live w.status) (λ w. not (is_finished w.status)) es in
    ((λ t. finished_all es (sym e ∙ given.0 t)), (λ all. given.1 (e ∙ finished_none es all)))

-- One pointer further.
pub leads_on : {I : Type 0} (es : List (Entry I)) (from at to tick : ℕ) (taken : Bool) (e : Entry I) → Stands es at e → e.status ≡ Retired to tick taken
    → ((last : ℕ) → Leads es at last → Leads es from last) → (last : ℕ) → Leads es to last → Leads es from last
leads_on es from at to tick taken e s is on last rest = on last (follows at last e to tick taken s is rest)

-- A chain has one end.
pub leads_one : {I : Type 0} {es : List (Entry I)} {n a b : ℕ} → Leads es n a → Leads es n b → a ≡ b
leads_one {es = es} (ends n e s live) other = end_of other s live
  where
    end_of : {m k : ℕ} {d : Entry _} → Leads es m k → Stands es m d → is_live d.status ≡ true → m ≡ k
    end_of (ends m d t l) s live = refl
    end_of (follows m last d to tick taken t is rest) s live =
        let same = stands_one s t in
        let dead : is_live d.status ≡ false = ap is_live is in
        let alive = subst (λ w. is_live w.status ≡ true) same live in
        absurd (cc)
leads_one {es = es} (follows n last e to tick taken s is rest) other = leads_one rest (next_of other s is)
  where
    next_of : {m k : ℕ} {d : Entry _} → Leads es m k → Stands es m d → d.status ≡ Retired to tick taken → Leads es to k
    next_of (ends m d t l) s is =
        let same = stands_one s t in
        let dead : is_live d.status ≡ false = ap (λ w. is_live w.status) (sym same) ∙ ap is_live is in
        absurd (cc)
    next_of (follows m last d next since mark t at rest) s is =
        let same = stands_one s t in
        let both : Retired to tick taken ≡ Retired next since mark = sym is ∙ ap (λ w. w.status) same ∙ at in
        let on : to ≡ next = cc in
        subst (λ k. Leads es k last) (sym on) rest

pub points_forward : {I : Type 0} {r : Rules I} {es : List (Entry I)} → Pointers r es → PointsForward es
points_forward p = record {
  later = λ n e to tick taken s is. (p n e to tick taken s is).later;
  within = λ n e to tick taken s is. stands_within (p n e to tick taken s is).stands;
}

-- The end of the chain covers its start.
pub leads_cover : {I : Type 0} {r : Rules I} {es : List (Entry I)} → Lawful r → Pointers r es → (n last : ℕ) → Leads es n last → (e : Entry I) → Stands es n e → LiveCover r e.item last es
leads_cover {r = r} {es = es} l p n last leads e s =
    let c = chains_of l p n e s in
    subst (λ k. LiveCover r e.item k es) (leads_one c.leads leads) c.cover

pub live_unless : (s : Status) → ((to tick : ℕ) (taken : Bool) → s ≡ Retired to tick taken → ⊥) → is_live s ≡ true
live_unless Waiting none = refl
live_unless Taken none = refl
live_unless Finished none = refl
live_unless (Retired to tick taken) none = absurd (none to tick taken refl)

pub leads_live : {I : Type 0} {es : List (Entry I)} {n last : ℕ} → Leads es n last → (e : Entry I) → Stands es last e → is_live e.status ≡ true
leads_live (ends n d t live) e s = subst (λ w. is_live w.status ≡ true) (stands_one t s) live
leads_live (follows n last d to tick taken t is rest) e s = leads_live rest e s
