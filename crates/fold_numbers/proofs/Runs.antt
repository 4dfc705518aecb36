-- The plain program's answers, over plain values.
use Rattle.std.proofs.Common.{◌≡◌, ℕ, suc, ◌+◌, ◌-◌, ◌<◌, ◌≤◌, Bool, true, false, List, [], ◌∷◌, length, map, set, drop, None, Some, Result, Ok, Err, IfOk, refl, ap, sym, ◌∙◌, subst, arith, get_or, drop-cons, add-one, drop_of_length-le}
use Rattle.fold_core.specs.declared.error.Large.{Large}
use Rattle.fold_core.specs.declared.error.NoMemory.{NoMemory}
use Rattle.fold_core.specs.declared.event.Placed.{Placed}
use Rattle.fold_core.specs.declared.event.Origin.TheVariants.{Root as FromRoot, Child}
use Rattle.fold_core.specs.declared.event.Status.TheVariants.{Taken}
use Rattle.fold_core.specs.declared.event.Event.{Event}
use Rattle.fold_core.specs.declared.event.Event.TheVariants.{Root, Take, Insert, Finish, Halt, Reset}
use Rattle.fold_core.specs.Rules.{Rules}
use Rattle.fold_core.specs.Machine.{Entry, Core, Stands, is_waiting, taken_count, least_waiting, placed, place_of, Accepts, Settles, settled, settles, Expanding, Overflowing, NextRoot, MayTake, let_go, put_back_entry, Step, root, take, insert, finish, halt, reset}
use Rattle.fold_numbers.specs.Replay.{Ran, RanAll, Puts}
use Rattle.fold_core.proofs.Places.{stands_one, stands_within, position_some}
use Rattle.fold_core.proofs.Stepping.{settles_keeps, ItemAt, item_kept}
use Rattle.fold_core.proofs.Histories.{same_children}
use Rattle.fold_core.proofs.Inversions.{step_says, next_of}

pub ran_not : {I : Type 0} {r : Rules I} {roots : List I} {budget : ℕ} {before : List Event} {c : Core I} {event : Event} (d : Core I)
    → ((other : Core I) → Step r roots budget before c event other → ⊥) → Ran r roots budget before c event false d
ran_not d none = record { leads = λ q. absurd (cc); refused = λ q. none }

pub root_ran : {I : Type 0} (r : Rules I) (roots : List I) (before : List Event) (c d : Core I) (budget : ℕ) (tick number : ℕ) (p : Placed) (x : I) (result : Result Bool NoMemory)
    → tick ≡ length before → NextRoot roots before number x → IfOk result (λ b. Puts r tick x (FromRoot number) p c b d)
    → IfOk result (λ b. Ran r roots budget before c (Root number p) b d)
root_ran r roots before c d budget tick number p x (Ok b) at next puts = record {
  leads = λ q. subst (λ w. Step r roots budget before c (Root number p) w)
      (sym (puts.leads q ∙ ap (λ t. placed r t x (FromRoot number) p c) at)) (root number p x next (puts.place q));
  refused = λ q other step.
      (let s = step_says step in
      puts.refused q (subst (λ w. p ≡ place_of r w c) (stands_one s.next.root next.root) s.place));
}
root_ran r roots before c d budget tick number p x (Err e) at next puts = _

pub insert_ran : {I : Type 0} (r : Rules I) (roots : List I) (before : List Event) (c d : Core I) {children : List I} (budget : ℕ) (tick parent child : ℕ) (p : Placed) (x : I) (result : Result Bool NoMemory)
    → tick ≡ length before → Expanding r parent children c → Stands children child x → IfOk result (λ b. Puts r tick x (Child parent child) p c b d)
    → IfOk result (λ b. Ran r roots budget before c (Insert parent child p) b d)
insert_ran r roots before c d {children = children} budget tick parent child p x (Ok b) at e s puts = record {
  leads = λ q. subst (λ w. Step r roots budget before c (Insert parent child p) w)
      (sym (puts.leads q ∙ ap (λ t. placed r t x (Child parent child) p c) at)) (insert parent child p children x e s (puts.place q));
  refused = λ q other step.
      (let i = step_says step in
      let list = same_children i.expanding e in
      let item = stands_one (subst (λ l. Stands l child i.item) list i.stands) s in
      puts.refused q (subst (λ w. p ≡ place_of r w c) item i.place));
}
insert_ran r roots before c d budget tick parent child p x (Err e) at expanding s puts = _

pub take_ran : {I : Type 0} (r : Rules I) (roots : List I) (before : List Event) (c v : Core I) (budget left least n : ℕ) (es : List (Entry I))
    → v ≡ c → v.found ≡ None → v.halted ≡ None → left ≡ budget - v.finished → taken_count v.entries < left
    → least_waiting v.entries ≡ Some least → least ≡ n
    → ((e : Entry I) → Stands v.entries n e → es ≡ set v.entries n (record e { status = Taken }))
    → Ran r roots budget before c (Take n) true (record v { entries = es })
take_ran r roots before c v budget left least n es here found halted room below first is turned =
    let f = position_some (λ w. is_waiting w.status) 0 v.entries least first in
    let at : f.place ≡ n = (let q = f.place_is in omega arith) in
    let s = subst (λ k. Stands v.entries k f.element) at f.stands in
    let may : MayTake budget n f.element v = record { not_found = found; not_halted = halted; in_budget = omega arith; least = first ∙ ap (λ k. Some k) is; stands = s } in
    let step : Step r roots budget before v (Take n) (record v { entries = es }) =
    subst (λ w. Step r roots budget before v (Take n) (record v { entries = w })) (sym (turned f.element s)) (take n f.element may) in
    record { leads = λ q. subst (λ w. Step r roots budget before w (Take n) (record v { entries = es })) here step; refused = λ q. absurd (cc) }

pub waiting_within : {I : Type 0} (es : List (Entry I)) (n : ℕ) → least_waiting es ≡ Some n → n < length es
waiting_within es n first =
    let f = position_some (λ w. is_waiting w.status) 0 es n first in
    let w = stands_within f.stands in
    let q = f.place_is in
    omega arith

pub halt_ran : {I : Type 0} (r : Rules I) (roots : List I) (before : List Event) (c v : Core I) (budget n : ℕ) (large why : Large)
    → v ≡ c → v.halted ≡ None → large ≡ why → Overflowing r n large c → Ran r roots budget before c (Halt n why) true (record v { halted = Some why })
halt_ran r roots before c v budget n large why here free is over =
    let step : Step r roots budget before v (Halt n why) (record v { halted = Some why }) =
    halt n why free (subst (λ w. Overflowing r n why w) (sym here) (subst (λ w. Overflowing r n w c) is over)) in
    record { leads = λ q. subst (λ w. Step r roots budget before w (Halt n why) (record v { halted = Some why })) here step; refused = λ q. absurd (cc) }

-- An entry has one expansion.
pub same_overflow : {I : Type 0} {r : Rules I} {n : ℕ} {a b : Large} {c : Core I} → Overflowing r n a c → Overflowing r n b c → a ≡ b
same_overflow {r = r} {b = b} x y =
    let same = stands_one x.stands y.stands in
    let e = subst (λ w. r.expansion w.item ≡ Err b) (sym same) y.expands in
    let f = x.expands in
    cc

pub reset_ran : {I : Type 0} (r : Rules I) (roots : List I) (budget : ℕ) (before : List Event) (c v : Core I) (es : List (Entry I))
    → v ≡ c → es ≡ map put_back_entry v.entries → Ran r roots budget before c Reset true (record v { entries = es })
reset_ran r roots budget before c v es here is = record {
  leads = λ q. subst (λ w. Step r roots budget before w Reset (record v { entries = es })) here
      (subst (λ w. Step r roots budget before v Reset (record v { entries = w })) (sym is) reset);
  refused = λ q. absurd (cc);
}

pub settles_length : {I : Type 0} {r : Rules I} {tick parent k : ℕ} {xs : List I} {ps : List Placed} {c d : Core I} → Settles r tick parent k xs ps c d → length xs ≡ length ps
settles_length (settled k c) = refl
settles_length (settles k x xs p ps c d a rest) = ap suc (settles_length rest)

-- The first k children were placed, and led to e.
pub record Along {I : Type 0} (r : Rules I) (tick parent : ℕ) (xs : List I) (ps : List Placed) (k : ℕ) (c e : Core I) : Type 0 where
  pub leads : (d : Core I) → Settles r tick parent k (drop k xs) (drop k ps) e d → Settles r tick parent 0 xs ps c d
  pub back : (d : Core I) → Settles r tick parent 0 xs ps c d → Settles r tick parent k (drop k xs) (drop k ps) e d

pub along_start : {I : Type 0} (r : Rules I) (tick parent : ℕ) (xs : List I) (ps : List Placed) (c : Core I) → Along r tick parent xs ps 0 c c
along_start r tick parent xs ps c = record { leads = λ d s. s; back = λ d s. s }

drop_next : {X : Type 0} (xs : List X) (k : ℕ) (d : X) → k < length xs → drop k xs ≡ get_or xs k d ∷ drop (k + 1) xs
drop_next xs k d h = drop-cons xs k d h ∙ ap (λ n. get_or xs k d ∷ drop n xs) (sym (add-one k))

pub along_next : {I : Type 0} {r : Rules I} {tick parent : ℕ} {xs : List I} {ps : List Placed} {k : ℕ} {c e : Core I} (x : I) (p : Placed) (f : Core I)
    → k < length xs → k < length ps
    → Accepts r (get_or xs k x) (get_or ps k p) e → f ≡ placed r tick (get_or xs k x) (Child parent k) (get_or ps k p) e
    → Along r tick parent xs ps k c e → Along r tick parent xs ps (k + 1) c f
along_next {r = r} {tick = tick} {parent = parent} {xs = xs} {ps = ps} {k = k} {e = e} x p f hx hp a is along =
    let dx = drop_next xs k x hx in
    let dp = drop_next ps k p hp in
    let y = get_or xs k x in
    let q = get_or ps k p in
    record {
      leads = λ d s. along.leads d
          (subst (λ w. Settles r tick parent k w (drop k ps) e d) (sym dx)
          (subst (λ w. Settles r tick parent k (y ∷ drop (k + 1) xs) w e d) (sym dp)
          (settles k y (drop (k + 1) xs) q (drop (k + 1) ps) e d a (subst (λ w. Settles r tick parent (k + 1) (drop (k + 1) xs) (drop (k + 1) ps) w d) is s))));
      back = λ d s. subst (λ w. Settles r tick parent (k + 1) (drop (k + 1) xs) (drop (k + 1) ps) w d) (sym is)
          (next_of (along.back d s) y (drop (k + 1) xs) q (drop (k + 1) ps) dx dp).rest;
    }

pub along_stop : {I : Type 0} {r : Rules I} {tick parent : ℕ} {xs : List I} {ps : List Placed} {k : ℕ} {c e : Core I} (x : I) (p : Placed) (f : Core I)
    → k < length xs → k < length ps
    → (Accepts r (get_or xs k x) (get_or ps k p) e → ⊥) → Along r tick parent xs ps k c e → RanAll r tick parent 0 xs ps c false f
along_stop {xs = xs} {ps = ps} {k = k} x p f hx hp not along = record {
  leads = λ q. absurd (cc);
  refused = λ q other s. not (next_of (along.back other s) (get_or xs k x) (drop (k + 1) xs) (get_or ps k p) (drop (k + 1) ps) (drop_next xs k x hx) (drop_next ps k p hp)).accepts;
}

pub along_end : {I : Type 0} {r : Rules I} {tick parent : ℕ} {xs : List I} {ps : List Placed} {k : ℕ} {c e : Core I}
    → length xs ≤ k → length ps ≤ k → Along r tick parent xs ps k c e → RanAll r tick parent 0 xs ps c true e
along_end {r = r} {tick = tick} {parent = parent} {xs = xs} {ps = ps} {k = k} {c = c} {e = e} hx hp along = record {
  leads = λ q. along.leads e
      (subst (λ w. Settles r tick parent k w (drop k ps) e e) (sym (drop_of_length-le xs hx))
      (subst (λ w. Settles r tick parent k [] w e e) (sym (drop_of_length-le ps hp)) (settled k e)));
  refused = λ q. absurd (cc);
}

-- What the end of an expansion says.
pub finish_ran : {I : Type 0} (r : Rules I) (roots : List I) (before : List Event) (c e f : Core I) (children : List I) (budget tick n : ℕ) (ps : List Placed)
    → tick ≡ length before → Expanding r n children c → RanAll r tick n 0 children ps c true e
    → ((w : Entry I) → Stands e.entries n w → f ≡ record e { entries = set e.entries n (record w { status = let_go w.status }); finished = e.finished + 1 })
    → Ran r roots budget before c (Finish n ps) true f
finish_ran r roots before c e f children budget tick n ps at x ran closed =
    let s = subst (λ t. Settles r t n 0 children ps c e) at (ran.leads refl) in
    let here : ItemAt n x.entry.item c = record { entry = x.entry; stands = x.stands; item_is = refl } in
    let last = settles_keeps (ItemAt n x.entry.item) (item_kept r (length before)) s here in
    record {
      leads = λ q. subst (λ w. Step r roots budget before c (Finish n ps) w) (sym (closed last.entry last.stands)) (finish n ps children e last.entry x s last.stands);
      refused = λ q. absurd (cc);
    }

pub finish_stops : {I : Type 0} (r : Rules I) (roots : List I) (before : List Event) (c d : Core I) (children : List I) (budget n : ℕ) (ps : List Placed)
    → Expanding r n children c → ((other : Core I) → Settles r (length before) n 0 children ps c other → ⊥)
    → Ran r roots budget before c (Finish n ps) false d
finish_stops r roots before c d children budget n ps x none = ran_not d (λ other step.
    (let f = step_says step in
    none f.last (subst (λ w. Settles r (length before) n 0 w ps c f.last) (same_children f.expanding x) f.settles)))

pub halt_stops : {I : Type 0} (r : Rules I) (roots : List I) (before : List Event) (c d : Core I) (budget n : ℕ) (why : Large)
    → (Overflowing r n why c → ⊥) → Ran r roots budget before c (Halt n why) false d
halt_stops r roots before c d budget n why none = ran_not d (λ other step. (let s = step_says step in none s.overflowing))

-- After the children of an entry are placed it is there still, and no expansion is finished.
pub still_there : {I : Type 0} {r : Rules I} {tick n : ℕ} {xs children : List I} {ps : List Placed} {c e : Core I}
    → Expanding r n children c → Settles r tick n 0 xs ps c e → (n < length e.entries) × (e.finished ≡ c.finished)
still_there {r = r} {tick = tick} {n = n} {c = c} x s =
    let last = settles_keeps (ItemAt n x.entry.item) (item_kept r tick) s (record { entry = x.entry; stands = x.stands; item_is = refl }) in
    (stands_within last.stands, settles_keeps (λ w. w.finished ≡ c.finished) (λ y o w q. q) s refl)
