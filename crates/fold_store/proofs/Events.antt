-- Each call's event is a step of the machine, and there is room for it.
use Rattle.std.proofs.Common.{◌≡◌, ℕ, zero, suc, ◌+◌, ◌<◌, ◌≤◌, ◌↔◌, Bool, true, false, ◌&&◌, cond, List, [], ◌∷◌, ◌++◌, length, map, set, Option, None, Some, IsSome, IsTrue, Ok, refl, ap, sym, ◌∙◌, subst, arith, length-append, length-set}
use Rattle.std.proofs.lemmas.List.{length-map}
use Rattle.std.proofs.lemmas.List.Sums.{sum_by-cons, sum_by_push, count_by-le-length}
use Rattle.fold_core.specs.declared.error.Large.{Large}
use Rattle.fold_core.specs.declared.event.Placed.{Placed}
use Rattle.fold_core.specs.declared.event.Placed.TheVariants.{Kept, Folded}
use Rattle.fold_core.specs.declared.event.Origin.{Origin}
use Rattle.fold_core.specs.declared.event.Origin.TheVariants.{Root as FromRoot, Child}
use Rattle.fold_core.specs.declared.event.Status.{Status}
use Rattle.fold_core.specs.declared.event.Status.TheVariants.{Waiting, Taken, Finished, Retired}
use Rattle.fold_core.specs.declared.event.Event.{Event}
use Rattle.fold_core.specs.declared.event.Event.TheVariants.{Take, Halt, Reset}
use Rattle.fold_core.specs.Rules.{Rules}
use Rattle.fold_core.specs.Machine.{Entry, Core, Stands, is_live, is_waiting, is_taken, taken_count, least_waiting, least_cover, overtaken, first_found, kept, placed, place_of, place_at, Overflowing, MayTake, put_back, put_back_entry, Step, root, take, insert, halt, reset, After, begin, more}
use Rattle.fold_core.proofs.Places.{position_some}
use Rattle.fold_core.proofs.Counting.{counted_after}
use Rattle.fold_core.proofs.Keeping.{fresh}
use Rattle.fold_store.specs.Table.{most_entries}
use Rattle.fold_store.specs.Work.{Expansion}
use Rattle.fold_store.specs.Store.{State, Next, owed_by, owed, owed_halt, Sound, event_of, ChildOf, MayPlace, IsFor, GoesOn}

-- The beginning.
pub sound_begin : {I : Type 0} (r : Rules I) (roots : List I) (budget : ℕ) (events : List Event) (es : List (Entry I)) (due : ℕ) → events ≡ [] → es ≡ [] → 1 ≤ due
    → Sound r roots budget events (record { entries = es; found = None; halted = None; finished = 0 }) due
sound_begin r roots budget events es due none no_entry room =
    subst (λ h. Sound r roots budget h (record { entries = es; found = None; halted = None; finished = 0 }) due) (sym none)
    (subst (λ w. Sound r roots budget [] (record { entries = w; found = None; halted = None; finished = 0 }) due) (sym no_entry)
    (record { after = begin; room = room; few = omega arith }))

-- One more event.
pub sound_next : {I : Type 0} {r : Rules I} {roots : List I} {budget : ℕ} {history events : List Event} {c d : Core I} {event : Event} {due : ℕ} (now : ℕ)
    → Sound r roots budget history c due → Step r roots budget history c event d → events ≡ history ++ event ∷ []
    → owed d.entries + owed_halt d.halted ≤ now → length d.entries ≤ most_entries → Sound r roots budget events d now
sound_next {r = r} {roots = roots} {budget = budget} {history = history} {c = c} {d = d} {event = event} now s step is room few = record {
  after = subst (λ h. After r roots budget h d) (sym is) (more history c event d s.after step);
  room = room;
  few = few;
}

pub sound_same : {I : Type 0} {r : Rules I} {roots : List I} {budget : ℕ} {history events : List Event} {c : Core I} {event : Event} {due : ℕ} (promised now : ℕ)
    → Sound r roots budget history c due → Step r roots budget history c event c → events ≡ history ++ event ∷ []
    → promised ≡ due + 1 → now + 1 ≡ promised → Sound r roots budget events c now
sound_same promised now s step is p q = sound_next now s step is (let h = s.room in omega arith) s.few

-- What is kept owes two events more, and what it retires owes none.
owed_less : {I : Type 0} (r : Rules I) (x : I) (n tick : ℕ) (e : Entry I) → owed_by (overtaken r x n tick e).status ≤ owed_by e.status
owed_less r x n tick e = elim (is_live e.status && r.covers x e.item) as (λ b. owed_by (cond b (record e { status = Retired n tick (is_taken e.status) }) e).status ≤ owed_by e.status) [
  | true ↦ by e.status
  | false ↦ omega arith
]
  where
    by : (s : Status) → cond (is_taken s) 1 0 ≤ owed_by s
    by Waiting = omega arith
    by Taken = omega arith
    by Finished = omega arith
    by (Retired to since taken) = omega arith

owed_map : {I : Type 0} (g : Entry I → Entry I) → ((e : Entry I) → owed_by (g e).status ≤ owed_by e.status) → (es : List (Entry I)) → owed (map g es) ≤ owed es
owed_map g less [] = omega arith
owed_map g less (e ∷ es) =
    let now = sum_by-cons (λ w. owed_by w.status) (g e) (map g es) in
    let before = sum_by-cons (λ w. owed_by w.status) e es in
    let rest = owed_map g less es in
    let head = less e in
    omega arith

owed_kept : {I : Type 0} (r : Rules I) (tick : ℕ) (x : I) (origin : Origin) (c : Core I) → owed (kept r tick x origin c).entries ≤ owed c.entries + 2
owed_kept r tick x origin c =
    let g = overtaken r x (length c.entries) tick in
    let pushed = sum_by_push (λ w. owed_by w.status) (map g c.entries) (fresh x origin) in
    let rest = owed_map g (owed_less r x (length c.entries) tick) c.entries in
    omega arith

length_kept : {I : Type 0} (r : Rules I) (tick : ℕ) (x : I) (origin : Origin) (c : Core I) → length (kept r tick x origin c).entries ≡ length c.entries + 1
length_kept r tick x origin c =
    let g = overtaken r x (length c.entries) tick in
    let pushed = length-append (map g c.entries) (fresh x origin ∷ []) in
    let mapped = length-map c.entries g in
    omega arith

-- The state once an item is kept, by its parts.
pub kept_is : {I : Type 0} (r : Rules I) (tick now : ℕ) (x y : I) (origin : Origin) (c : Core I) (es : List (Entry I)) (found : Option ℕ) (number : ℕ) (initial : Bool)
    → tick ≡ now → y ≡ x → es ≡ map (overtaken r y (length c.entries) tick) c.entries ++ record { item = y; origin = origin; status = Waiting } ∷ []
    → found ≡ first_found c.found initial number → initial ≡ r.initial x → number ≡ length c.entries
    → record { entries = es; found = found; halted = c.halted; finished = c.finished } ≡ kept r now x origin c
kept_is r tick now x y origin c es found number initial at same is first starts next =
    let made : es ≡ (kept r now x origin c).entries =
    is ∙ ap (λ t. map (overtaken r y (length c.entries) t) c.entries ++ record { item = y; origin = origin; status = Waiting } ∷ []) at
    ∙ ap (λ z. map (overtaken r z (length c.entries) now) c.entries ++ record { item = z; origin = origin; status = Waiting } ∷ []) same in
    let f : found ≡ first_found c.found (r.initial x) (length c.entries) = first ∙ ap (λ b. first_found c.found b number) starts ∙ ap (first_found c.found (r.initial x)) next in
    ap (λ w. record { entries = w; found = found; halted = c.halted; finished = c.finished }) made
    ∙ ap (λ w. record { entries = (kept r now x origin c).entries; found = w; halted = c.halted; finished = c.finished }) f

pub sound_kept : {I : Type 0} {r : Rules I} {roots : List I} {budget : ℕ} {history events : List Event} {c d : Core I} {event : Event} {due : ℕ} (promised now : ℕ) (x : I) (origin : Origin)
    → Sound r roots budget history c due → Step r roots budget history c event (kept r (length history) x origin c) → length c.entries < most_entries
    → d ≡ kept r (length history) x origin c
    → events ≡ history ++ event ∷ [] → promised ≡ due + 3 → now + 1 ≡ promised → Sound r roots budget events d now
sound_kept {r = r} {roots = roots} {budget = budget} {history = history} {events = events} {c = c} promised now x origin s step many made is p q =
    let room = s.room in
    let more_owed = owed_kept r (length history) x origin c in
    let longer = length_kept r (length history) x origin c in
    subst (λ w. Sound r roots budget events w now) (sym made) (sound_next now s step is (omega arith) (omega arith))

-- An item is placed by its own event.
pub placing : {F I : Type 0} (r : Rules I) (s : State F I) (origin : Origin) (x : I) (p : Placed) (event : Event) → MayPlace r s origin x → p ≡ place_of r x s.core → event ≡ event_of origin p
    → Step r s.roots s.budget s.history s.core event (placed r (length s.history) x origin p s.core)
placing r s (FromRoot number) x p event may is by =
    subst (λ e. Step r s.roots s.budget s.history s.core e (placed r (length s.history) x (FromRoot number) p s.core)) (sym by) (root number p x may is)
placing r s (Child parent child) x p event may is by =
    subst (λ e. Step r s.roots s.budget s.history s.core e (placed r (length s.history) x (Child parent child) p s.core)) (sym by) (insert parent child p may.children x may.expanding may.stands is)

pub folds_into : {I : Type 0} (r : Rules I) (x : I) (c : Core I) (n : ℕ) → least_cover r x c.entries ≡ Some n → Folded n ≡ place_of r x c
folds_into r x c n e = ap (λ o. place_at o (length c.entries)) (sym e)

pub keeps_as : {I : Type 0} (r : Rules I) (x : I) (c : Core I) (n : ℕ) → least_cover r x c.entries ≡ None → n ≡ length c.entries → Kept n ≡ place_of r x c
keeps_as r x c n e is = ap Kept is ∙ ap (λ o. place_at o (length c.entries)) (sym e)

-- Whether a work is that of an entry.
pub is_for_last : {F I : Type 0} (s : State F I) (n : ℕ) (w : Expansion F I) (kept : Entry I) (b : Bool) (mine theirs : F) → Stands s.core.entries n kept → is_taken kept.status ≡ true → kept.item ≡ w.item
    → mine ≡ s.rules → theirs ≡ w.rules → (IsTrue b ↔ (mine ≡ theirs)) → IsTrue b ↔ IsFor s n w
is_for_last s n w kept b mine theirs at taken item of_s of_w same =
    ((λ t. record { entry = kept; stands = at; taken = taken; item = item; rules = sym of_s ∙ same.0 t ∙ of_w }), (λ f. same.1 (of_s ∙ f.rules ∙ sym of_w)))

-- A work's child may be placed.
pub child_of : {F I : Type 0} (rules : F → Rules I) (s : State F I) (n k : ℕ) (w : Expansion F I) (x : I) → IsFor s n w → (rules w.rules).expansion w.item ≡ Ok w.children
    → Stands w.children k x → ChildOf (rules s.rules) s.core n k x
child_of rules s n k w x f e at = record {
  children = w.children;
  expanding = record {
    entry = f.entry;
    stands = f.stands;
    taken = f.taken;
    expands = ap (λ v. (rules v).expansion f.entry.item) f.rules ∙ ap (rules w.rules).expansion f.item ∙ e;
  };
  stands = at;
}

-- The taken and the finished are within the budget.
pub in_budget : {I : Type 0} {r : Rules I} {roots : List I} {budget : ℕ} {history : List Event} {c : Core I} {due : ℕ} → Sound r roots budget history c due → taken_count c.entries + c.finished ≤ budget
in_budget s = (counted_after s.after).below

-- Entry n, which waits, is taken.
pub owed_set : {I : Type 0} (es : List (Entry I)) (n : ℕ) (e f : Entry I) → Stands es n e → owed (set es n f) + owed_by e.status ≡ owed es + owed_by f.status
owed_set [] n e f s = absurd (let q = s.is in cc)
owed_set (d ∷ es) zero e f s =
    let now = sum_by-cons (λ w. owed_by w.status) f es in
    let before = sum_by-cons (λ w. owed_by w.status) d es in
    let q = s.is in
    let same : d ≡ e = cc in
    let head : owed_by d.status ≡ owed_by e.status = ap (λ w. owed_by w.status) same in
    omega arith
owed_set (d ∷ es) (suc n) e f s =
    let now = sum_by-cons (λ w. owed_by w.status) d (set es n f) in
    let before = sum_by-cons (λ w. owed_by w.status) d es in
    let rest = owed_set es n e f (record { is = s.is }) in
    omega arith

waiting_owes : (s : Status) → is_waiting s ≡ true → owed_by s ≡ 2
waiting_owes Waiting w = refl
waiting_owes Taken w = absurd (cc)
waiting_owes Finished w = absurd (cc)
waiting_owes (Retired to tick taken) w = absurd (cc)

pub record TakesAt {I : Type 0} (r : Rules I) (roots : List I) (budget : ℕ) (history : List Event) (c : Core I) (n : ℕ) (es : List (Entry I)) : Type 0 where
  pub step : Step r roots budget history c (Take n) (record c { entries = es })
  pub owes : owed es + 1 ≡ owed c.entries
  pub same : length es ≡ length c.entries

pub takes_at : {I : Type 0} (r : Rules I) (roots : List I) (budget : ℕ) (history : List Event) (c : Core I) (n : ℕ) (es : List (Entry I))
    → c.found ≡ None → c.halted ≡ None → taken_count c.entries + c.finished < budget → least_waiting c.entries ≡ Some n
    → ((e : Entry I) → Stands c.entries n e → es ≡ set c.entries n (record e { status = Taken })) → TakesAt r roots budget history c n es
takes_at r roots budget history c n es found halted room least is =
    let f = position_some (λ w. is_waiting w.status) 0 c.entries n least in
    let at : f.place ≡ n = (let q = f.place_is in omega arith) in
    let s = subst (λ k. Stands c.entries k f.element) at f.stands in
    let e = f.element in
    let taken : Entry _ = record e { status = Taken } in
    let may : MayTake budget n e c = record { not_found = found; not_halted = halted; in_budget = room; least = least; stands = s } in
    let owes = owed_set c.entries n e taken s in
    let two = waiting_owes e.status f.passes in
    let set_is = is e s in
    let many = length-set c.entries n taken in
    let now : owed es ≡ owed (set c.entries n taken) = ap owed set_is in
    let long : length es ≡ length (set c.entries n taken) = ap length set_is in
    record {
      step = subst (λ w. Step r roots budget history c (Take n) (record c { entries = w })) (sym set_is) (take n e may);
      owes = omega arith;
      same = omega arith;
    }

pub sound_take : {I : Type 0} {r : Rules I} {roots : List I} {budget : ℕ} {history events : List Event} {c : Core I} {n : ℕ} {es : List (Entry I)} {due : ℕ} (now : ℕ)
    → Sound r roots budget history c due → TakesAt r roots budget history c n es → events ≡ history ++ Take n ∷ [] → now + 1 ≡ due
    → Sound r roots budget events (record c { entries = es }) now
sound_take now s t is q =
    let room = s.room in
    let few = s.few in
    let owes = t.owes in
    let same = t.same in
    sound_next now s t.step is (omega arith) (omega arith)

pub next_take : {F I : Type 0} (rules : F → Rules I) (s t : State F I) (n : ℕ) (es : List (Entry I)) (events : List Event) → s ≡ t → TakesAt (rules s.rules) s.roots s.budget s.history s.core n es
    → events ≡ s.history ++ Take n ∷ [] → Next (rules t.rules) t (Take n) (record s { history = events; core = record s.core { entries = es } })
next_take rules s t n es events here at is = subst (λ w. Next (rules w.rules) w (Take n) (record s { history = events; core = record s.core { entries = es } })) here
    (record { step = at.step; same = ap (λ h. record s { history = h; core = record s.core { entries = es } }) is })

-- The budget is spent.
pub spent_is : {F I : Type 0} (s t : State F I) (es : List (Entry I)) (n : ℕ) → s ≡ t → es ≡ s.core.entries → s.core.found ≡ None → s.core.halted ≡ None → least_waiting s.core.entries ≡ Some n
    → taken_count s.core.entries + s.core.finished ≡ s.budget
    → (record s { core = record s.core { entries = es } } ≡ t) × GoesOn t.core × IsSome (least_waiting t.core.entries) × (taken_count t.core.entries + t.core.finished ≡ t.budget)
spent_is s t es n here same found halted least all =
    let w : State _ _ = record s { core = record s.core { entries = es } } in
    let back : w ≡ t = ap (λ es. record s { core = record s.core { entries = es } }) same ∙ here in
    let some : IsSome (least_waiting s.core.entries) = subst IsSome (sym least) refl in (
      back,
      subst (λ v. GoesOn v.core) here (record { not_found = found; not_halted = halted }),
      subst (λ v. IsSome (least_waiting v.core.entries)) here some,
      subst (λ v. taken_count v.core.entries + v.core.finished ≡ v.budget) here all,
    )

-- The search is halted.
pub sound_halt : {I : Type 0} {r : Rules I} {roots : List I} {budget : ℕ} {history events : List Event} {c : Core I} {n : ℕ} {why : Large} {due : ℕ} (now : ℕ)
    → Sound r roots budget history c due → c.halted ≡ None → Overflowing r n why c → events ≡ history ++ Halt n why ∷ [] → now + 1 ≡ due
    → Sound r roots budget events (record c { halted = Some why }) now
sound_halt {n = n} {why = why} now s free over is q =
    let room = s.room in
    let one = ap owed_halt free in
    sound_next now s (halt n why free over) is (omega arith) s.few

pub next_halt : {F I : Type 0} (rules : F → Rules I) (s t : State F I) (n : ℕ) (why : Large) (events : List Event) → s ≡ t → s.core.halted ≡ None → Overflowing (rules t.rules) n why t.core
    → events ≡ s.history ++ Halt n why ∷ [] → Next (rules t.rules) t (Halt n why) (record s { history = events; core = record s.core { halted = Some why } })
next_halt rules s t n why events here free over is =
    let same_over = subst (λ w. Overflowing (rules w.rules) n why w.core) (sym here) over in
    subst (λ w. Next (rules w.rules) w (Halt n why) (record s { history = events; core = record s.core { halted = Some why } })) here
    (record { step = halt n why free same_over; same = ap (λ h. record s { history = h; core = record s.core { halted = Some why } }) is })

-- What is taken waits again.
owed_put_back : {I : Type 0} (es : List (Entry I)) → owed (map put_back_entry es) ≤ owed es + taken_count es
owed_put_back [] = omega arith
owed_put_back (e ∷ es) =
    let now = sum_by-cons (λ w. owed_by w.status) (put_back_entry e) (map put_back_entry es) in
    let before = sum_by-cons (λ w. owed_by w.status) e es in
    let taken = sum_by-cons (λ (w : Entry _). cond (is_taken w.status) 1 0) e es in
    let rest = owed_put_back es in
    let head = by e.status in
    omega arith
  where
    by : (s : Status) → owed_by (put_back s) ≤ owed_by s + cond (is_taken s) 1 0
    by Waiting = omega arith
    by Taken = omega arith
    by Finished = omega arith
    by (Retired to tick taken) = omega arith

pub sound_reset : {I : Type 0} {r : Rules I} {roots : List I} {budget : ℕ} {history events : List Event} {c : Core I} {es : List (Entry I)} {due : ℕ} (promised taken now : ℕ)
    → Sound r roots budget history c due → es ≡ map put_back_entry c.entries → taken ≡ taken_count c.entries → events ≡ history ++ Reset ∷ [] → promised ≡ due + (taken + 1) → now + 1 ≡ promised
    → Sound r roots budget events (record c { entries = es }) now
sound_reset {r = r} {roots = roots} {budget = budget} {history = history} {events = events} {c = c} promised taken now s made count is p q =
    let room = s.room in
    let few = s.few in
    let owes = owed_put_back c.entries in
    let many = length-map c.entries put_back_entry in
    subst (λ w. Sound r roots budget events (record c { entries = w }) now) (sym made) (sound_next now s reset is (omega arith) (omega arith))

pub next_reset : {F I : Type 0} (rules : F → Rules I) (s t : State F I) (es : List (Entry I)) (events : List Event) → s ≡ t → es ≡ map put_back_entry s.core.entries
    → events ≡ s.history ++ Reset ∷ [] → Next (rules t.rules) t Reset (record s { history = events; core = record s.core { entries = es } })
next_reset rules s t es events here made is =
    subst (λ w. Next (rules w.rules) w Reset (record s { history = events; core = record s.core { entries = es } })) here
    (subst (λ w. Next (rules s.rules) s Reset (record s { history = events; core = record s.core { entries = w } })) (sym made)
    (record { step = reset; same = ap (λ h. record s { history = h; core = record s.core { entries = map put_back_entry s.core.entries } }) is }))

pub taken_few : {I : Type 0} {r : Rules I} {roots : List I} {budget : ℕ} {history : List Event} {c : Core I} {due : ℕ} → Sound r roots budget history c due → taken_count c.entries ≤ most_entries
taken_few {c = c} s = let few = s.few in let h = count_by-le-length (λ (e : Entry _). is_taken e.status) c.entries in omega arith
