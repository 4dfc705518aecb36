-- Finished counts the finish events, which are on different entries, within the budget.
use Rattle.std.proofs.Common.{◌≡◌, ◌≢◌, ◌⊎◌, inl, inr, ℕ, zero, suc, ◌+◌, ◌<◌, ◌≤◌, true, false, cond, List, [], ◌∷◌, ◌++◌, length, map, set, None, refl, ap, sym, ◌∙◌, subst, arith, length-append, append-nil}
use Rattle.std.specs.List.{cons_option, sum_by}
use Rattle.std.proofs.lemmas.List.Elements.{filter_map-append}
use Rattle.std.proofs.lemmas.List.Sums.{sum_by-cons, sum_by_push}
use Rattle.fold_core.specs.declared.event.Origin.{Origin}
use Rattle.fold_core.specs.declared.event.Origin.TheVariants.{Root as FromRoot, Child}
use Rattle.fold_core.specs.declared.event.Status.{Status}
use Rattle.fold_core.specs.declared.event.Status.TheVariants.{Waiting, Taken, Finished, Retired}
use Rattle.fold_core.specs.declared.event.Event.{Event}
use Rattle.fold_core.specs.declared.event.Event.TheVariants.{Root, Take, Insert, Finish, Halt, Reset}
use Rattle.fold_core.specs.Rules.{Rules}
use Rattle.fold_core.specs.Machine.{Entry, Core, Stands, is_waiting, is_taken, taken_count, overtaken, kept, let_go, put_back, put_back_entry, Step, root, take, insert, finish, halt, reset, After, begin, more}
use Rattle.fold_core.specs.Facts.{finished_by, finishes, Counts}
use Rattle.fold_core.proofs.Places.{stands_one, stands_append, stands_map, stands_set_same, stands_set_other, position_some}
use Rattle.fold_core.proofs.Keeping.{fresh, Outcome, was_retired, stays, goes, outcome, kept_old}
use Rattle.fold_core.proofs.Stepping.{placed_keeps, settles_keeps}

-- How many a taken entry counts for.
abbrev pub weight : {I : Type 0} → Entry I → ℕ
weight e = cond (is_taken e.status) 1 0

pub taken_map : {I : Type 0} (g : Entry I → Entry I) → ((e : Entry I) → is_taken (g e).status ≡ is_taken e.status) → (es : List (Entry I))
    → sum_by weight (map g es) ≡ sum_by weight es
taken_map g same [] = refl
taken_map g same (e ∷ es) =
    let now = sum_by-cons weight (g e) (map g es) in
    let before = sum_by-cons weight e es in
    let rest = taken_map g same es in
    let head : weight (g e) ≡ weight e = ap (λ b. cond b 1 0) (same e) in
    omega arith

pub taken_none : {I : Type 0} (g : Entry I → Entry I) → ((e : Entry I) → is_taken (g e).status ≡ false) → (es : List (Entry I)) → sum_by weight (map g es) ≡ 0
taken_none g none [] = refl
taken_none g none (e ∷ es) =
    let now = sum_by-cons weight (g e) (map g es) in
    let rest = taken_none g none es in
    let head : weight (g e) ≡ 0 = ap (λ b. cond b 1 0) (none e) in
    omega arith

pub taken_set : {I : Type 0} (es : List (Entry I)) (n : ℕ) (e f : Entry I) → Stands es n e → sum_by weight (set es n f) + weight e ≡ sum_by weight es + weight f
taken_set [] n e f s = absurd (let q = s.is in cc)
taken_set (d ∷ es) zero e f s =
    let now = sum_by-cons weight f es in
    let before = sum_by-cons weight d es in
    let q = s.is in
    let same : d ≡ e = cc in
    let head : weight d ≡ weight e = ap weight same in
    omega arith
taken_set (d ∷ es) (suc n) e f s =
    let now = sum_by-cons weight d (set es n f) in
    let before = sum_by-cons weight d es in
    let rest = taken_set es n e f (record { is = s.is }) in
    omega arith

pub taken_kept : {I : Type 0} (r : Rules I) (tick : ℕ) (x : I) (origin : Origin) (c : Core I) → taken_count (kept r tick x origin c).entries ≡ taken_count c.entries
taken_kept r tick x origin c =
    let g = overtaken r x (length c.entries) tick in
    let pushed = sum_by_push weight (map g c.entries) (fresh x origin) in
    let mapped = taken_map g (λ e. by (outcome r x (length c.entries) tick e)) c.entries in
    omega arith
  where
    by : {e f : Entry _} → Outcome r x (length c.entries) tick e f → is_taken f.status ≡ is_taken e.status
    by (was_retired p) = refl
    by (stays p q) = refl
    by (goes p q) = refl

-- Entry n neither waits nor is taken: it stays so.
pub record IsOver {I : Type 0} (n : ℕ) (es : List (Entry I)) : Type 0 where
  pub entry : Entry I
  pub stands : Stands es n entry
  pub waits : is_waiting entry.status ≡ false
  pub taken : is_taken entry.status ≡ false

over_kept : {I : Type 0} (r : Rules I) (tick : ℕ) (x : I) (origin : Origin) (c : Core I) {n : ℕ} → IsOver n c.entries → IsOver n (kept r tick x origin c).entries
over_kept r tick x origin c {n = n} old = by (outcome r x (length c.entries) tick old.entry) (kept_old r tick x origin c old.stands)
  where
    by : {f : Entry _} → Outcome r x (length c.entries) tick old.entry f → Stands (kept r tick x origin c).entries n f → IsOver n (kept r tick x origin c).entries
    by (was_retired p) s = record { entry = old.entry; stands = s; waits = old.waits; taken = old.taken }
    by (stays p q) s = record { entry = old.entry; stands = s; waits = old.waits; taken = old.taken }
    by (goes p q) s = record { entry = _; stands = s; waits = refl; taken = old.taken }

over_set : {I : Type 0} {es : List (Entry I)} {n : ℕ} (m : ℕ) (f : Entry I) → n ≢ m → IsOver n es → IsOver n (set es m f)
over_set m f other old = record { entry = old.entry; stands = stands_set_other m f other old.stands; waits = old.waits; taken = old.taken }

over_reset : {I : Type 0} {es : List (Entry I)} {n : ℕ} → IsOver n es → IsOver n (map put_back_entry es)
over_reset old =
    let both = by old.entry.status old.waits old.taken in
    record { entry = put_back_entry old.entry; stands = stands_map put_back_entry old.stands; waits = both.0; taken = both.1 }
  where
    by : (s : Status) → is_waiting s ≡ false → is_taken s ≡ false → (is_waiting (put_back s) ≡ false) × (is_taken (put_back s) ≡ false)
    by Waiting p q = absurd (cc)
    by Taken p q = absurd (cc)
    by Finished p q = (refl, refl)
    by (Retired to tick taken) p q = (refl, refl)

-- The counts after the finish events on these entries.
pub record Counted {I : Type 0} (budget : ℕ) (ns : List ℕ) (c : Core I) : Type 0 where
  pub number : c.finished ≡ length ns
  pub different : (i j n : ℕ) → Stands ns i n → Stands ns j n → i ≡ j
  pub over : (i n : ℕ) → Stands ns i n → IsOver n c.entries
  pub below : taken_count c.entries + c.finished ≤ budget

counted_kept : {I : Type 0} (r : Rules I) (tick budget : ℕ) (ns : List ℕ) (x : I) (origin : Origin) (c : Core I) → Counted budget ns c → Counted budget ns (kept r tick x origin c)
counted_kept r tick budget ns x origin c old = record {
  number = old.number;
  different = old.different;
  over = λ i n s. over_kept r tick x origin c (old.over i n s);
  below = (let same = taken_kept r tick x origin c in let h = old.below in omega arith);
}

-- Entry n is taken.
pub record TakenAt {I : Type 0} (n : ℕ) (c : Core I) : Type 0 where
  pub entry : Entry I
  pub stands : Stands c.entries n entry
  pub taken : is_taken entry.status ≡ true

taken_at_kept : {I : Type 0} (r : Rules I) (tick n : ℕ) (x : I) (origin : Origin) (c : Core I) → TakenAt n c → TakenAt n (kept r tick x origin c)
taken_at_kept r tick n x origin c old = by (outcome r x (length c.entries) tick old.entry) (kept_old r tick x origin c old.stands)
  where
    by : {f : Entry _} → Outcome r x (length c.entries) tick old.entry f → Stands (kept r tick x origin c).entries n f → TakenAt n (kept r tick x origin c)
    by (was_retired p) s = record { entry = old.entry; stands = s; taken = old.taken }
    by (stays p q) s = record { entry = old.entry; stands = s; taken = old.taken }
    by (goes p q) s = record { entry = _; stands = s; taken = old.taken }

counted_take : {I : Type 0} {budget n : ℕ} {ns : List ℕ} {e : Entry I} {c : Core I} → is_waiting e.status ≡ true → Stands c.entries n e
    → taken_count c.entries + c.finished < budget → Counted budget ns c → Counted budget ns (record c { entries = set c.entries n (record e { status = Taken }) })
counted_take {n = n} {ns = ns} {e = e} {c = c} waits s room old = record {
  number = old.number;
  different = old.different;
  over = λ i m t. (let o = old.over i m t in over_set n (record e { status = Taken }) (λ q. apart o q) o);
  below = (let h = taken_set c.entries n e (record e { status = Taken }) s in omega arith);
}
  where
    apart : {m : ℕ} → IsOver m c.entries → m ≡ n → ⊥
    apart o q =
        let same = stands_one (subst (λ k. Stands c.entries k o.entry) q o.stands) s in
        let not = subst (λ w. is_waiting w.status ≡ false) same o.waits in
        cc

counted_finish : {I : Type 0} {budget n : ℕ} {ns : List ℕ} {e : Entry I} {d : Core I} → TakenAt n d → Stands d.entries n e
    → Counted budget ns d → Counted budget (ns ++ n ∷ []) (record d { entries = set d.entries n (record e { status = let_go e.status }); finished = d.finished + 1 })
counted_finish {budget = budget} {n = n} {ns = ns} {e = e} {d = d} at s old = record {
  number = (let h = old.number in omega (arith, length-append ns (n ∷ [])));
  different = λ i j m t u. different (stands_append ns n i m t) (stands_append ns n j m u);
  over = λ i m t. over (stands_append ns n i m t);
  below = (let h = taken_set d.entries n e (record e { status = let_go e.status }) s in
      let was : weight e ≡ 1 = ap (λ b. cond b 1 0) taken in
      let now : weight (record e { status = let_go e.status }) ≡ 0 = ap (λ b. cond b 1 0) (gone e.status).1 in
      let b = old.below in
      omega arith);
}
  where
    taken : is_taken e.status ≡ true
    taken = subst (λ w. is_taken w.status ≡ true) (stands_one at.stands s) at.taken

    gone : (t : Status) → (is_waiting (let_go t) ≡ false) × (is_taken (let_go t) ≡ false)
    gone Waiting = (refl, refl)
    gone Taken = (refl, refl)
    gone Finished = (refl, refl)
    gone (Retired to tick before) = (refl, refl)

    apart : {m : ℕ} → IsOver m d.entries → m ≡ n → ⊥
    apart o q =
        let same = stands_one (subst (λ k. Stands d.entries k o.entry) q o.stands) s in
        let not = subst (λ w. is_taken w.status ≡ false) same o.taken in
        let yes = taken in
        cc

    different : {i j m : ℕ} → Stands ns i m ⊎ ((i ≡ length ns) × (m ≡ n)) → Stands ns j m ⊎ ((j ≡ length ns) × (m ≡ n)) → i ≡ j
    different {i = i} {j = j} {m = m} (inl p) (inl q) = old.different i j m p q
    different {i = i} {m = m} (inl p) (inr q) = absurd (apart (old.over i m p) q.1)
    different {j = j} {m = m} (inr p) (inl q) = absurd (apart (old.over j m q) p.1)
    different (inr p) (inr q) = p.0 ∙ sym q.0

    over : {i m : ℕ} → Stands ns i m ⊎ ((i ≡ length ns) × (m ≡ n)) → IsOver m (set d.entries n (record e { status = let_go e.status }))
    over {i = i} {m = m} (inl p) = (let o = old.over i m p in over_set n (record e { status = let_go e.status }) (λ q. apart o q) o)
    over (inr q) = subst (λ k. IsOver k (set d.entries n (record e { status = let_go e.status }))) (sym q.1)
        (record { entry = record e { status = let_go e.status }; stands = stands_set_same _ s; waits = (gone e.status).0; taken = (gone e.status).1 })

counted_reset : {I : Type 0} {budget : ℕ} {ns : List ℕ} {c : Core I} → Counted budget ns c → Counted budget ns (record c { entries = map put_back_entry c.entries })
counted_reset {c = c} old = record {
  number = old.number;
  different = old.different;
  over = λ i n s. over_reset (old.over i n s);
  below = (let none = taken_none put_back_entry (λ e. by e.status) c.entries in let b = old.below in omega arith);
}
  where
    by : (s : Status) → is_taken (put_back s) ≡ false
    by Waiting = refl
    by Taken = refl
    by Finished = refl
    by (Retired to tick taken) = refl

-- An event that finishes nothing.
still : {I : Type 0} {budget : ℕ} (before : List Event) (event : Event) {d : Core I} → finished_by event ≡ None
    → Counted budget (finishes before) d → Counted budget (finishes (before ++ event ∷ [])) d
still {budget = budget} before event {d = d} none old =
    let more = filter_map-append finished_by before (event ∷ []) in
    let same : finishes (event ∷ []) ≡ [] = ap (λ o. cons_option o []) none in
    subst (λ ns. Counted budget ns d) (sym (more ∙ ap (λ ns. finishes before ++ ns) same ∙ append-nil (finishes before))) old

counted_step : {I : Type 0} {r : Rules I} {roots : List I} {budget : ℕ} {before : List Event} {c d : Core I} {event : Event}
    → Step r roots budget before c event d → Counted budget (finishes before) c → Counted budget (finishes (before ++ event ∷ [])) d
counted_step {r = r} {budget = budget} {before = before} {c = c} (root number p x next is) old =
    still before (Root number p) refl (placed_keeps r (length before) (Counted budget (finishes before)) (counted_kept r (length before) budget (finishes before)) x (FromRoot number) p c old)
counted_step {before = before} {c = c} (take n e may) old =
    let f = position_some (λ w. is_waiting w.status) 0 c.entries n may.least in
    let at : f.place ≡ n = (let q = f.place_is in omega arith) in
    let same = stands_one (subst (λ k. Stands c.entries k f.element) at f.stands) may.stands in
    still before (Take n) refl (counted_take (subst (λ w. is_waiting w.status ≡ true) same f.passes) may.stands may.in_budget old)
counted_step {r = r} {budget = budget} {before = before} {c = c} (insert parent child p children x e s is) old =
    still before (Insert parent child p) refl (placed_keeps r (length before) (Counted budget (finishes before)) (counted_kept r (length before) budget (finishes before)) x (Child parent child) p c old)
counted_step {r = r} {budget = budget} {before = before} (finish n ps children d e x s t) old =
    let last = settles_keeps (Counted budget (finishes before)) (counted_kept r (length before) budget (finishes before)) s old in
    let taken = settles_keeps (TakenAt n) (taken_at_kept r (length before) n) s (record { entry = x.entry; stands = x.stands; taken = x.taken }) in
    subst (λ ns. Counted budget ns (record d { entries = set d.entries n (record e { status = let_go e.status }); finished = d.finished + 1 }))
    (sym (filter_map-append finished_by before (Finish n ps ∷ []))) (counted_finish taken t last)
counted_step {before = before} (halt n why free x) old = still before (Halt n why) refl (record { number = old.number; different = old.different; over = old.over; below = old.below })
counted_step {before = before} reset old = still before Reset refl (counted_reset old)

pub counted_after : {I : Type 0} {r : Rules I} {roots : List I} {budget : ℕ} {history : List Event} {c : Core I} → After r roots budget history c → Counted budget (finishes history) c
counted_after begin = record {
  number = refl;
  different = λ i j n s t. absurd (let q = s.is in cc);
  over = λ i n s. absurd (let q = s.is in cc);
  below = omega arith;
}
counted_after (more before c event d a step) = counted_step step (counted_after a)

pub counts_after : {I : Type 0} {r : Rules I} {roots : List I} {budget : ℕ} {history : List Event} {c : Core I} → After r roots budget history c → Counts budget history c
counts_after a =
    let all = counted_after a in
    record { number = all.number; different = all.different; in_budget = (let b = all.below in omega arith) }
