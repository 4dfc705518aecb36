-- A finish: the inserts that it made on the way become one event.
use Rattle.std.proofs.Common.{◌≡◌, ℕ, zero, suc, ◌+◌, ◌<◌, ◌≤◌, true, cond, List, [], ◌∷◌, ◌++◌, length, map, set, take, Option, None, slice_get, Result, Ok, Err, IfOk, OnErr, refl, ap, sym, ◌∙◌, subst, arith, length-append, length-set}
use Rattle.std.proofs.lemmas.List.{length-map, take-append-le}
use Rattle.fold_core.specs.declared.event.Placed.{Placed}
use Rattle.fold_core.specs.declared.event.Placed.TheVariants.{Folded}
use Rattle.fold_core.specs.declared.event.Origin.{Origin}
use Rattle.fold_core.specs.declared.event.Origin.TheVariants.{Child}
use Rattle.fold_core.specs.declared.event.Status.{Status}
use Rattle.fold_core.specs.declared.event.Status.TheVariants.{Waiting, Taken, Finished, Retired}
use Rattle.fold_core.specs.declared.event.Event.{Event}
use Rattle.fold_core.specs.declared.event.Event.TheVariants.{Insert, Finish}
use Rattle.fold_core.specs.Rules.{Rules, Lawful}
use Rattle.fold_core.specs.Machine.{Entry, Core, Stands, is_taken, kept, placed, place_of, Settles, Expanding, let_go, Step, finish, After, more}
use Rattle.fold_core.proofs.Places.{stands_within, stands_map}
use Rattle.fold_core.proofs.Keeping.{Outcome, was_retired, stays, goes, outcome, kept_old}
use Rattle.fold_core.proofs.Stepping.{sound_after, placed_keeps}
use Rattle.fold_core.proofs.Counting.{weight, taken_set}
use Rattle.fold_store.specs.Table.{TakenEntry, clip_status, clip_entry}
use Rattle.fold_store.specs.declared.error.StoreFail.{StoreFail}
use Rattle.fold_store.specs.Work.{Expansion}
use Rattle.fold_store.specs.Hints.{HintSays, Hinted, guided, unguided, HintsSettle, all_placed}
use Rattle.fold_store.specs.Store.{State, Next, owed_by, Sound, ChildOf, IsFor, Inserts, InsertsBelow, InsertsOnce, nothing, one_more, none_behind, one_behind, Settled, folded, inserted, clipped, Closing, closed, Finishes}
use Rattle.fold_store.proofs.Clipping.{clip_taken, clip_owed, owed_clip, clipped_placed, clip_none}
use Rattle.fold_store.proofs.Hinting.{hints_settle, hints_more, hinted_clip}
use Rattle.fold_store.proofs.Events.{in_budget, owed_set}
use Rattle.fold_store.proofs.Numbers.{take_stands}

expanding_kept : {I : Type 0} (r : Rules I) (tick n : ℕ) (xs : List I) (x : I) (origin : Origin) (c : Core I) → Expanding r n xs c → Expanding r n xs (kept r tick x origin c)
expanding_kept r tick n xs x origin c old = by (outcome r x (length c.entries) tick old.entry) (kept_old r tick x origin c old.stands)
  where
    by : {f : Entry _} → Outcome r x (length c.entries) tick old.entry f → Stands (kept r tick x origin c).entries n f → Expanding r n xs (kept r tick x origin c)
    by (was_retired p) s = record { entry = old.entry; stands = s; taken = old.taken; expands = old.expands }
    by (stays p q) s = record { entry = old.entry; stands = s; taken = old.taken; expands = old.expands }
    by (goes p q) s = record { entry = _; stands = s; taken = old.taken; expands = old.expands }

pub expanding_placed : {I : Type 0} (r : Rules I) (tick n : ℕ) (xs : List I) (x : I) (origin : Origin) (p : Placed) (c : Core I) → Expanding r n xs c → Expanding r n xs (placed r tick x origin p c)
expanding_placed r tick n xs x origin p c e = placed_keeps r tick (Expanding r n xs) (λ y o w v. expanding_kept r tick n xs y o w v) x origin p c e

-- How far a finish of entry n has come since the store was `old`: these children are placed, by
-- these hints.
pub record Finishing {F I : Type 0} (rules : F → Rules I) (old now : State F I) (n : ℕ) (hints : List ℕ) (children xs : List I) (ps : List Placed) : Type 0 where
  pub inserts : Inserts rules n old now
  pub once : InsertsBelow rules n old (length xs) now
  pub same : now ≡ record old { history = now.history; core = now.core }
  pub history : take (length old.history) now.history ≡ old.history
  pub longer : length old.history ≤ length now.history
  pub began : Expanding (rules old.rules) n children old.core
  pub expanding : Expanding (rules old.rules) n children now.core
  pub by_hints : HintsSettle (rules old.rules) (length old.history) n hints 0 xs ps old.core (clipped (length old.history) now.core)

raised : {F I : Type 0} {rules : F → Rules I} {n : ℕ} {s t : State F I} (low high : ℕ) → InsertsBelow rules n s low t → low ≤ high → InsertsBelow rules n s high t
raised low high (none_behind bound) at = none_behind high
raised low high (one_behind t u child bound p before step less) at = one_behind t u child high p before step (omega (arith, less, at))

expanding_for : {F I : Type 0} (rules : F → Rules I) (s : State F I) (n : ℕ) (w : Expansion F I) → IsFor s n w → (rules w.rules).expansion w.item ≡ Ok w.children → Expanding (rules s.rules) n w.children s.core
expanding_for rules s n w f e = record {
  entry = f.entry;
  stands = f.stands;
  taken = f.taken;
  expands = ap (λ v. (rules v).expansion f.entry.item) f.rules ∙ ap (rules w.rules).expansion f.item ∙ e;
}

pub take_all : {X : Type 0} (xs : List X) → take (length xs) xs ≡ xs
take_all [] = refl
take_all (x ∷ xs) = ap (λ ys. x ∷ ys) (take_all xs)

pub finishing_start : {F I : Type 0} (rules : F → Rules I) (s : State F I) (n : ℕ) (hints : List ℕ) (w : Expansion F I) (xs : List I) (ps : List Placed) → Lawful (rules s.rules) → After (rules s.rules) s.roots s.budget s.history s.core
    → IsFor s n w → (rules w.rules).expansion w.item ≡ Ok w.children → xs ≡ [] → ps ≡ [] → Finishing rules s s n hints w.children xs ps
finishing_start rules s n hints w xs ps law after f e no_child no_place =
    let ticks = (sound_after law after).pointers in
    let same : clipped (length s.history) s.core ≡ s.core =
    ap (λ es. record s.core { entries = es }) (clip_none (length s.history) s.core.entries (λ m d to tick taken t q. (ticks m d to tick taken t q).0)) in
    record {
      inserts = nothing;
      once = none_behind (length xs);
      same = refl;
      history = take_all s.history;
      longer = omega arith;
      began = expanding_for rules s n w f e;
      expanding = expanding_for rules s n w f e;
      by_hints = subst (λ v. HintsSettle (rules s.rules) (length s.history) n hints 0 v ps s.core (clipped (length s.history) s.core)) (sym no_child)
          (subst (λ v. HintsSettle (rules s.rules) (length s.history) n hints 0 [] v s.core (clipped (length s.history) s.core)) (sym no_place)
          (subst (λ v. HintsSettle (rules s.rules) (length s.history) n hints 0 [] [] s.core v) (sym same) (all_placed 0 s.core)));
    }

pub finishing_child : {F I : Type 0} {rules : F → Rules I} {old now : State F I} {n : ℕ} {hints : List ℕ} {children xs : List I} {ps : List Placed} (k : ℕ) (x : I)
    → Finishing rules old now n hints children xs ps → Stands children k x → ChildOf (rules now.rules) now.core n k x
finishing_child {rules = rules} {now = now} {n = n} {children = children} k x f s =
    let r = ap (λ (v : State _ _). rules v.rules) f.same in
    record { children = children; expanding = subst (λ v. Expanding v n children now.core) (sym r) f.expanding; stands = s }

hinted_by : {F I : Type 0} {r : Rules I} {n k : ℕ} {x : I} {hint : Option ℕ} {s t : State F I} {p : Placed} → Settled r n k x hint s p t → Hinted r x hint s.core p
hinted_by (folded into says) = guided into says
hinted_by (inserted p t none is step after) = unguided p none is

-- How a child was placed, by the rules that the store began with.
hinted_of : {F I : Type 0} {rules : F → Rules I} {old now next : State F I} {n : ℕ} {hints : List ℕ} {children xs : List I} {ps : List Placed} {k : ℕ} {x : I} {hint : Option ℕ} {p : Placed}
    → Settled (rules now.rules) n k x hint now p next → Finishing rules old now n hints children xs ps → hint ≡ slice_get hints k
    → Hinted (rules old.rules) x (slice_get hints k) (clipped (length old.history) now.core) p
hinted_of {rules = rules} {old = old} {now = now} {hints = hints} {k = k} {x = x} {p = p} s f given =
    let same : rules now.rules ≡ rules old.rules = ap (λ (v : State _ _). rules v.rules) f.same in
    hinted_clip (length old.history) (subst (λ r. Hinted r x (slice_get hints k) now.core p) same (subst (λ o. Hinted (rules now.rules) x o now.core p) given (hinted_by s)))

finishing_folded : {F I : Type 0} {rules : F → Rules I} {old now : State F I} {n : ℕ} {hints : List ℕ} {children xs : List I} {ps : List Placed} (k : ℕ) (x : I) (into : ℕ)
    → Finishing rules old now n hints children xs ps → k ≡ length xs → Hinted (rules old.rules) x (slice_get hints k) (clipped (length old.history) now.core) (Folded into)
    → Finishing rules old now n hints children (xs ++ x ∷ []) (ps ++ Folded into ∷ [])
finishing_folded {xs = xs} k x into f at h = record {
  inserts = f.inserts;
  once = raised (length xs) (length (xs ++ x ∷ [])) f.once (let many = length-append xs (x ∷ []) in omega arith);
  same = f.same;
  history = f.history;
  longer = f.longer;
  began = f.began;
  expanding = f.expanding;
  by_hints = hints_more x (Folded into) k f.by_hints (omega arith) h;
}

finishing_inserted : {F I : Type 0} {rules : F → Rules I} {old now : State F I} {n : ℕ} {hints : List ℕ} {children xs : List I} {ps : List Placed} (k : ℕ) (x : I) (p : Placed) (next : State F I)
    → Finishing rules old now n hints children xs ps → k ≡ length xs → Hinted (rules old.rules) x (slice_get hints k) (clipped (length old.history) now.core) p
    → Next (rules now.rules) now (Insert n k p) next → next.core ≡ placed (rules now.rules) (length now.history) x (Child n k) p now.core
    → Finishing rules old next n hints children (xs ++ x ∷ []) (ps ++ p ∷ [])
finishing_inserted {rules = rules} {old = old} {now = now} {n = n} {hints = hints} {children = children} {xs = xs} {ps = ps} k x p next f at h step after =
    let r = rules old.rules in
    let start = length old.history in
    let event = Insert n k p in
    let same_rules : rules now.rules ≡ r = ap (λ (v : State _ _). rules v.rules) f.same in
    let core : next.core ≡ placed r (length now.history) x (Child n k) p now.core = after ∙ ap (λ v. placed v (length now.history) x (Child n k) p now.core) same_rules in
    let events : next.history ≡ now.history ++ event ∷ [] = ap (λ (v : State _ _). v.history) step.same in
    let many = length-append now.history (event ∷ []) in
    let total : length next.history ≡ length (now.history ++ event ∷ []) = ap length events in
    let longer = f.longer in
    let done = hints_more x p k f.by_hints (omega arith) h in
    let clip : clipped start next.core ≡ placed r start x (Child n k) p (clipped start now.core) =
    ap (clipped start) core ∙ clipped_placed r (length now.history) start x (Child n k) p now.core longer in
    record {
      inserts = one_more now next k p f.inserts step;
      once = one_behind now next k (length (xs ++ x ∷ [])) p (subst (λ m. InsertsBelow rules n old m now) (sym at) f.once) step (let count = length-append xs (x ∷ []) in omega arith);
      same = step.same ∙ ap (λ (v : State _ _). record v { history = now.history ++ event ∷ []; core = next.core }) f.same ∙ ap (λ h. record old { history = h; core = next.core }) (sym events);
      history = ap (take start) events ∙ take-append-le start now.history (event ∷ []) longer ∙ f.history;
      longer = omega arith;
      began = f.began;
      expanding = subst (λ v. Expanding r n children v) (sym core) (expanding_placed r (length now.history) n children x (Child n k) p now.core f.expanding);
      by_hints = subst (λ v. HintsSettle r start n hints 0 (xs ++ x ∷ []) (ps ++ p ∷ []) old.core v) (sym clip) done;
    }

finishing_next : {F I : Type 0} {rules : F → Rules I} {old now next : State F I} {n : ℕ} {hints : List ℕ} {children xs : List I} {ps : List Placed} {k : ℕ} {x : I} {hint : Option ℕ} {p : Placed}
    → Settled (rules now.rules) n k x hint now p next → Finishing rules old now n hints children xs ps → k ≡ length xs
    → Hinted (rules old.rules) x (slice_get hints k) (clipped (length old.history) now.core) p → Finishing rules old next n hints children (xs ++ x ∷ []) (ps ++ p ∷ [])
finishing_next {k = k} {x = x} (folded into says) f at h = finishing_folded k x into f at h
finishing_next {k = k} {x = x} (inserted p next none is step after) f at h = finishing_inserted k x p next f at h step after

-- All children are placed.
pub finishing_closing : {F I : Type 0} {rules : F → Rules I} {old now : State F I} {n start : ℕ} {hints : List ℕ} {children xs : List I} {ps : List Placed}
    → Finishing rules old now n hints children xs ps → xs ≡ children → start ≡ length old.history → After (rules old.rules) old.roots old.budget old.history old.core → Closing (rules now.rules) now start n ps
finishing_closing {rules = rules} {old = old} {now = now} {n = n} {start = start} {children = children} {ps = ps} f whole at after =
    let r = rules old.rules in
    let v : State _ _ = record old { history = now.history; core = now.core } in
    let closing : Closing r v (length old.history) n ps = record {
      before = old.core;
      after = subst (λ h. After r old.roots old.budget h old.core) (sym f.history) after;
      start_is = ap length f.history;
      children = children;
      expanding = f.began;
      settles = subst (λ w. Settles r (length old.history) n 0 w ps old.core (clipped (length old.history) now.core)) whole (hints_settle f.by_hints);
      taken = record { entry = f.expanding.entry; stands = f.expanding.stands; taken = f.expanding.taken };
    } in
    subst (λ (w : State _ _). Closing (rules w.rules) w start n ps) (sym f.same) (subst (λ k. Closing r v k n ps) (sym at) closing)

pub finishing_done : {F I : Type 0} {rules : F → Rules I} {old now new : State F I} {n start : ℕ} {hints : List ℕ} {children xs : List I} {ps : List Placed}
    → Finishing rules old now n hints children xs ps → xs ≡ children → start ≡ length old.history → ((e : Entry I) → Stands now.core.entries n e → new ≡ closed now start n ps e)
    → Finishes (rules old.rules) n children hints old new
finishing_done {rules = rules} {old = old} {now = now} {new = new} {n = n} {start = start} {hints = hints} {children = children} {ps = ps} f whole at is =
    let r = rules old.rules in
    let begin = length old.history in
    let e = f.expanding.entry in
    let made : new ≡ closed now begin n ps e = is e f.expanding.stands ∙ ap (λ k. closed now k n ps e) at in
    let turned : Entry _ = record e { status = let_go (clip_status begin e.status) } in
    let core : Core _ = record now.core { entries = set (map (clip_entry begin) now.core.entries) n turned; finished = now.core.finished + 1 } in
    let core_is : new.core ≡ core = ap (λ (v : State _ _). v.core) made in
    let by_hints = subst (λ w. HintsSettle r begin n hints 0 w ps old.core (clipped begin now.core)) whole f.by_hints in
    let step : Step r old.roots old.budget old.history old.core (Finish n ps) core =
    finish n ps children (clipped begin now.core) (clip_entry begin e) f.began (hints_settle by_hints) (stands_map (clip_entry begin) f.expanding.stands) in
    record {
      places = ps;
      next = record {
        step = subst (λ c. Step r old.roots old.budget old.history old.core (Finish n ps) c) (sym core_is) step;
        same = made ∙ ap (λ (v : State _ _). record v { history = take begin now.history ++ Finish n ps ∷ []; core = core }) f.same
            ∙ ap (λ h. record old { history = h ++ Finish n ps ∷ []; core = core }) f.history
            ∙ ap (λ c. record old { history = old.history ++ Finish n ps ∷ []; core = c }) (sym core_is);
      };
      settled = clipped begin now.core;
      by_hints = by_hints;
    }

let_go_owes : (s : Status) → owed_by (let_go s) ≡ 0
let_go_owes Waiting = refl
let_go_owes Taken = refl
let_go_owes Finished = refl
let_go_owes (Retired to tick taken) = refl

taken_owes : (s : Status) → is_taken s ≡ true → owed_by s ≡ 1
taken_owes Waiting t = absurd (cc)
taken_owes Taken t = refl
taken_owes Finished t = absurd (cc)
taken_owes (Retired to tick taken) t = ap (λ b. cond b 1 0) t

-- A taken entry owes an event, and leaves the budget room for one more that is finished.
pub taken_room : {I : Type 0} {r : Rules I} {roots : List I} {budget : ℕ} {history : List Event} {c : Core I} {due n : ℕ} → Sound r roots budget history c due → TakenEntry n c.entries
    → (0 < due) × (c.finished < budget)
taken_room {c = c} {due = due} {n = n} s t =
    let within = in_budget s in
    let room = s.room in
    let gone : Entry _ = record t.entry { status = Finished } in
    let one : weight t.entry ≡ 1 = ap (λ b. cond b 1 0) t.taken in
    let count = taken_set c.entries n t.entry gone t.stands in
    let owes = taken_owes t.entry.status t.taken in
    let change = owed_set c.entries n t.entry gone t.stands in
    (omega arith, omega arith)

pub taken_clip : {I : Type 0} (b n : ℕ) (es fs : List (Entry I)) → fs ≡ map (clip_entry b) es → TakenEntry n es → TakenEntry n fs
taken_clip b n es fs is t = subst (λ w. TakenEntry n w) (sym is)
    (record { entry = clip_entry b t.entry; stands = stands_map (clip_entry b) t.stands; taken = clip_taken b t.entry.status ∙ t.taken })

pub sound_close : {F I : Type 0} {r : Rules I} {s : State F I} {start n due : ℕ} {places : List Placed} {events : List Event} {es fs : List (Entry I)} (now : ℕ)
    → Sound r s.roots s.budget s.history s.core due → Closing r s start n places → fs ≡ map (clip_entry start) s.core.entries
    → ((e : Entry I) → Stands fs n e → es ≡ set fs n (record e { status = let_go e.status }))
    → events ≡ take start s.history ++ Finish n places ∷ [] → now + 1 ≡ due
    → Sound r s.roots s.budget events (record s.core { entries = es; finished = s.core.finished + 1 }) now
sound_close {r = r} {s = s} {start = start} {n = n} {due = due} {places = places} {events = events} {es = es} {fs = fs} now sound c made is same q =
    let clips = map (clip_entry start) s.core.entries in
    let e = clip_entry start c.taken.entry in
    let stands = stands_map (clip_entry start) c.taken.stands in
    let turned : Entry _ = record e { status = let_go e.status } in
    let set_is : es ≡ set clips n turned = is e (subst (λ w. Stands w n e) (sym made) stands) ∙ ap (λ w. set w n turned) made in
    let core : Core _ = record s.core { entries = set clips n turned; finished = s.core.finished + 1 } in
    let settles = subst (λ k. Settles r k n 0 c.children places c.before (clipped start s.core)) (sym c.start_is) c.settles in
    let step : Step r s.roots s.budget (take start s.history) c.before (Finish n places) core =
    finish n places c.children (clipped start s.core) e c.expanding settles stands in
    let room = sound.room in
    let few = sound.few in
    let owes = owed_clip start s.core.entries in
    let one : owed_by e.status ≡ 1 = clip_owed start c.taken.entry.status ∙ taken_owes c.taken.entry.status c.taken.taken in
    let none = let_go_owes e.status in
    let change = owed_set clips n e turned stands in
    let many = length-set clips n turned in
    let long = length-map s.core.entries (clip_entry start) in
    subst (λ w. Sound r s.roots s.budget events (record s.core { entries = w; finished = s.core.finished + 1 }) now) (sym set_is) (record {
      after = subst (λ h. After r s.roots s.budget h core) (sym same) (more (take start s.history) c.before (Finish n places) core c.after step);
      room = omega arith;
      few = omega arith;
    })

pub closed_is : {F I : Type 0} {s t : State F I} (start n : ℕ) (places : List Placed) {events : List Event} {es fs : List (Entry I)} (e : Entry I) → s ≡ t → fs ≡ map (clip_entry start) s.core.entries
    → ((e : Entry I) → Stands fs n e → es ≡ set fs n (record e { status = let_go e.status })) → events ≡ take start s.history ++ Finish n places ∷ [] → Stands t.core.entries n e
    → record s { history = events; core = record s.core { entries = es; finished = s.core.finished + 1 } } ≡ closed t start n places e
closed_is {s = s} start n places {events = events} {es = es} {fs = fs} e here made is same stands =
    let back = subst (λ (v : State _ _). Stands v.core.entries n e) (sym here) stands in
    let clip = clip_entry start e in
    let turned : Entry _ = record clip { status = let_go clip.status } in
    let set_is : es ≡ set (map (clip_entry start) s.core.entries) n turned =
    is clip (subst (λ w. Stands w n clip) (sym made) (stands_map (clip_entry start) back)) ∙ ap (λ w. set w n turned) made in
    ap (λ h. record s { history = h; core = record s.core { entries = es; finished = s.core.finished + 1 } }) same
    ∙ ap (λ w. record s { history = take start s.history ++ Finish n places ∷ []; core = record s.core { entries = w; finished = s.core.finished + 1 } }) set_is
    ∙ ap (λ (v : State _ _). closed v start n places e) here

pub settle_by : {F I : Type 0} (r : Rules I) (n k : ℕ) (x : I) (hint : Option ℕ) (s t : State F I) (result : Result Placed StoreFail) → HintSays r x hint s.core.entries None
    → IfOk result (λ p. Next r s (Insert n k p) t) → IfOk result (λ p. (p ≡ place_of r x s.core) × (t.core ≡ placed r (length s.history) x (Child n k) p s.core))
    → IfOk result (λ p. Settled r n k x hint s p t)
settle_by r n k x hint s t (Ok p) none step made = inserted p t none made.0 step made.1
settle_by r n k x hint s t (Err e) none step made = _

pub always_err : {X E : Type 0} (result : Result X E) {P : Type 0} → P → OnErr result P
always_err (Ok x) p = _
always_err (Err e) p = p

pub inserts_settled : {F I : Type 0} (rules : F → Rules I) {n k : ℕ} {x : I} {hint : Option ℕ} {old now next : State F I} {p : Placed} → Settled (rules now.rules) n k x hint now p next → Inserts rules n old now
    → Inserts rules n old next
inserts_settled rules (folded into says) before = before
inserts_settled rules {k = k} {now = now} (inserted p next none is step after) before = one_more now next k p before step

pub once_settled : {F I : Type 0} (rules : F → Rules I) {n k : ℕ} {x : I} {hint : Option ℕ} {old now next : State F I} {p : Placed} → Settled (rules now.rules) n k x hint now p next → InsertsBelow rules n old k now
    → InsertsOnce rules n old next
once_settled rules {k = k} (folded into says) before = (k, before)
once_settled rules {k = k} {now = now} (inserted p next none is step after) before = (k + 1, one_behind now next k (k + 1) p before step (omega arith))

pub take_whole : {X : Type 0} (xs : List X) (k : ℕ) → length xs ≤ k → take k xs ≡ xs
take_whole [] zero h = refl
take_whole [] (suc k) h = refl
take_whole (x ∷ xs) zero h = absurd (omega arith)
take_whole (x ∷ xs) (suc k) h = ap (λ w. x ∷ w) (take_whole xs k (omega arith))

pub length_taken : {X : Type 0} (xs : List X) (k : ℕ) → k < length xs → k ≡ length (take k xs)
length_taken [] k h = absurd (omega arith)
length_taken (x ∷ xs) zero h = refl
length_taken (x ∷ xs) (suc k) h = ap suc (length_taken xs k (omega arith))

pub finishing_taken : {F I : Type 0} {rules : F → Rules I} {old now next : State F I} {n : ℕ} {hints : List ℕ} {children : List I} {ps qs : List Placed} {k : ℕ} {x : I} {hint : Option ℕ} {p : Placed}
    → Settled (rules now.rules) n k x hint now p next → Finishing rules old now n hints children (take k children) ps → Stands children k x → hint ≡ slice_get hints k → qs ≡ ps ++ p ∷ []
    → Finishing rules old next n hints children (take (k + 1) children) qs
finishing_taken {rules = rules} {old = old} {next = next} {n = n} {hints = hints} {children = children} {ps = ps} {qs = qs} {k = k} {x = x} {p = p} s f at given pushed =
    let within = stands_within at in
    let suc_is : suc k ≡ k + 1 = omega arith in
    let took : take (k + 1) children ≡ take k children ++ x ∷ [] = ap (λ m. take m children) (sym suc_is) ∙ take_stands children k x at in
    subst (λ w. Finishing rules old next n hints children w qs) (sym took)
    (subst (λ w. Finishing rules old next n hints children (take k children ++ x ∷ []) w) (sym pushed) (finishing_next s f (length_taken children k within) (hinted_of s f given)))
