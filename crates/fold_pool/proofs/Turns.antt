-- An entry that was taken is taken still, whatever children are inserted.
use Rattle.std.proofs.Common.{◌≡◌, ℕ, ◌+◌, List, [], ◌∷◌, ◌++◌, length, length-append, Some, Result, Ok, Err, OnOk, OnErr, true, refl, ap, sym, ◌∙◌, subst, arith}
use Rattle.fold_core.specs.declared.event.Placed.{Placed}
use Rattle.fold_core.specs.declared.event.Origin.{Origin}
use Rattle.fold_core.specs.declared.event.Origin.TheVariants.{Child}
use Rattle.fold_core.specs.declared.event.Event.{Event}
use Rattle.fold_core.specs.declared.event.Event.TheVariants.{Insert, Take}
use Rattle.fold_core.specs.Rules.{Rules}
use Rattle.fold_core.specs.declared.error.Large.{Large}
use Rattle.fold_core.specs.declared.event.Status.TheVariants.{Taken}
use Rattle.fold_core.specs.Machine.{Entry, Core, Stands, is_taken, kept, Overflowing}
use Rattle.fold_core.proofs.Places.{stands_set_same}
use Rattle.std.specs.Option.{option_map}
use Rattle.std.specs.Result.{IsErrOf}
use Rattle.fold_core.proofs.Keeping.{Outcome, was_retired, stays, goes, outcome, kept_old}
use Rattle.fold_core.proofs.Stepping.{placed_keeps}
use Rattle.fold_core.proofs.Inversions.{step_says}
use Rattle.fold_store.specs.Table.{TakenEntry}
use Rattle.fold_store.specs.Work.{Expansion}
use Rattle.fold_store.specs.Store.{State, Next, IsFor, NoRoomFor, NoRoomForOne, Finishes, item_at, Inserts, nothing, one_more}
use Rattle.fold_store.proofs.Events.{child_of}
use Rattle.fold_store.specs.declared.error.StoreFail.{StoreFail}
use Rattle.fold_store.specs.declared.error.StoreFail.TheVariants.{Full, NoMemory}
use Rattle.fold_pool.specs.declared.turn.Turn.{Turn}
use Rattle.fold_pool.specs.declared.turn.Turn.TheVariants.{Finished, Halted, Nothing, Spent, Stopped}
use Rattle.fold_pool.specs.Turn.{InOrder, none_yet, then_next, Inserted, InsertsAll, Expanded, Left, NoRoomIn, Works, Turns, SameHead}

-- Entry n is taken, and its item is x.
pub record TakenItem {I : Type 0} (n : ℕ) (x : I) (c : Core I) : Type 0 where
  pub entry : Entry I
  pub stands : Stands c.entries n entry
  pub taken : is_taken entry.status ≡ true
  pub item : entry.item ≡ x

taken_kept : {I : Type 0} (r : Rules I) (tick n : ℕ) (y : I) (x : I) (origin : Origin) (c : Core I) → TakenItem n y c → TakenItem n y (kept r tick x origin c)
taken_kept r tick n y x origin c old = by (outcome r x (length c.entries) tick old.entry) (kept_old r tick x origin c old.stands)
  where
    by : {f : Entry _} → Outcome r x (length c.entries) tick old.entry f → Stands (kept r tick x origin c).entries n f → TakenItem n y (kept r tick x origin c)
    by (was_retired p) s = record { entry = old.entry; stands = s; taken = old.taken; item = old.item }
    by (stays p q) s = record { entry = old.entry; stands = s; taken = old.taken; item = old.item }
    by (goes p q) s = record { entry = _; stands = s; taken = old.taken; item = old.item }

pub is_for_next : {F I : Type 0} (rules : F → Rules I) {s t : State F I} {n m k : ℕ} {p : Placed} {w : Expansion F I} → Next (rules s.rules) s (Insert n k p) t → IsFor s m w → IsFor t m w
is_for_next rules {s = s} {t = t} {n = n} {m = m} {k = k} {p = p} {w = w} next f =
    let says = step_says next.step in
    let r = rules s.rules in
    let start : TakenItem m w.item s.core = record { entry = f.entry; stands = f.stands; taken = f.taken; item = f.item } in
    let then = placed_keeps r (length s.history) (TakenItem m w.item) (λ x o c q. taken_kept r (length s.history) m w.item x o c q) says.item (Child n k) p s.core start in
    let now = subst (TakenItem m w.item) (sym says.after) then in
    record { entry = now.entry; stands = now.stands; taken = now.taken; item = now.item; rules = ap (λ (v : State _ _). v.rules) next.same ∙ f.rules }

pub is_for_inserts : {F I : Type 0} {rules : F → Rules I} {s : State F I} {n m : ℕ} {t : State F I} {w : Expansion F I} → Inserts rules n s t → IsFor s m w → IsFor t m w
is_for_inserts nothing f = f
is_for_inserts {rules = rules} (one_more t u child p before step) f = is_for_next rules step (is_for_inserts before f)

pub is_for_ordered : {F I : Type 0} {rules : F → Rules I} {s : State F I} {n m : ℕ} {entries : List ℕ} {t : State F I} {w : Expansion F I} → InOrder rules n s entries t → IsFor s m w → IsFor t m w
is_for_ordered none_yet f = f
is_for_ordered {rules = rules} (then_next entries t u p before step) f = is_for_next rules step (is_for_ordered before f)

-- What was done in order was done.
pub inserts_of : {F I : Type 0} {rules : F → Rules I} {s : State F I} {n : ℕ} {entries : List ℕ} {t : State F I} → InOrder rules n s entries t → Inserts rules n s t
inserts_of none_yet = nothing
inserts_of (then_next entries t u p before step) = one_more t u (length entries) p (inserts_of before) step

pub inserts_on : {F I : Type 0} {rules : F → Rules I} {s t : State F I} {n : ℕ} {u : State F I} → Inserts rules n s t → Inserts rules n t u → Inserts rules n s u
inserts_on before nothing = before
inserts_on before (one_more v w child p more step) = one_more v w child p (inserts_on before more) step

pub left_for : {F I : Type 0} {rules : F → Rules I} {s t : State F I} {n : ℕ} {w : Expansion F I} → Inserts rules n s t → IsFor s n w → Left rules n s t
left_for i f = let g = is_for_inserts i f in record { inserts = i; taken = record { entry = g.entry; stands = g.stands; taken = g.taken } }

pub left_on : {F I : Type 0} {rules : F → Rules I} {s t u : State F I} {n : ℕ} → Inserts rules n s t → Left rules n t u → Left rules n s u
left_on before l = record { inserts = inserts_on before l.inserts; taken = l.taken }

-- There is no room for a child of the work.
pub no_room_in : {F I : Type 0} (rules : F → Rules I) (s t : State F I) (n child : ℕ) (w : Expansion F I) → t ≡ s → IsFor s n w → (rules w.rules).expansion w.item ≡ Ok w.children
    → NoRoomFor (rules s.rules) s w child → NoRoomIn (rules t.rules) n t
no_room_in rules s t n child w same f e missing =
    subst (λ (v : State _ _). NoRoomIn (rules v.rules) n v) (sym same)
    (record { child = child; item = missing.item; child_of = child_of rules s n child w missing.item f e missing.stands; no_room = missing.no_room })

pub no_room_of : {F I : Type 0} (rules : F → Rules I) (s t : State F I) (n : ℕ) (w : Expansion F I) → Inserts rules n s t → IsFor s n w → (rules w.rules).expansion w.item ≡ Ok w.children
    → NoRoomForOne (rules s.rules) t w → NoRoomIn (rules t.rules) n t
no_room_of rules s t n w i f e missing =
    let r = same_rules i in
    no_room_in rules t t n missing.child w refl (is_for_inserts i f) e (subst (λ v. NoRoomFor (rules v) t w missing.child) (sym r) missing.no_room)
  where
    same_rules : {u : State _ _} → Inserts rules n s u → u.rules ≡ s.rules
    same_rules nothing = refl
    same_rules (one_more v u child p before step) = ap (λ (x : State _ _). x.rules) step.same ∙ same_rules before

-- The answers.
pub works_err : {F I : Type 0} (rules : F → Rules I) (n : ℕ) (s t : State F I) (e : StoreFail) → Left rules n s t → (IsErrOf {T = Unit {0}} (Err e) Full → NoRoomIn (rules t.rules) n t) → Works rules n s (Err e) t
works_err rules n s t Full l full = (l, full refl)
works_err rules n s t NoMemory l full = l

pub taken_left : {F I : Type 0} (rules : F → Rules I) (n : ℕ) (s : State F I) → TakenEntry n s.core.entries → Left rules n s s
taken_left rules n s t = record { inserts = nothing; taken = t }

-- The work of a taken entry's item is for it.
pub made_for : {F I : Type 0} (s : State F I) (n : ℕ) (w : Expansion F I) (rules : F) (x : I) → TakenEntry n s.core.entries → item_at s.core.entries n ≡ Some x → rules ≡ s.rules → w.rules ≡ rules → w.item ≡ x → IsFor s n w
made_for s n w rules x t at same made item =
    let is = t.stands.is in
    let one : item_at s.core.entries n ≡ Some t.entry.item = ap (option_map (λ (e : Entry _). e.item)) is in
    let own : t.entry.item ≡ x = cc in
    record { entry = t.entry; stands = t.stands; taken = t.taken; item = own ∙ sym item; rules = sym same ∙ sym made }

pub overflows : {F I : Type 0} (rules : F → Rules I) (s : State F I) (n : ℕ) (own : F) (x : I) (why : Large) → TakenEntry n s.core.entries → item_at s.core.entries n ≡ Some x → own ≡ s.rules → (rules own).expansion x ≡ Err why
    → Overflowing (rules s.rules) n why s.core
overflows rules s n own x why t at same large =
    let is = t.stands.is in
    let one : item_at s.core.entries n ≡ Some t.entry.item = ap (option_map (λ (e : Entry _). e.item)) is in
    let item : t.entry.item ≡ x = cc in
    record { entry = t.entry; stands = t.stands; taken = t.taken; expands = ap (rules s.rules).expansion item ∙ ap (λ v. (rules v).expansion x) (sym same) ∙ large }

pub expanded_by : {F I X E : Type 0} (rules : F → Rules I) (s u t : State F I) (n : ℕ) (w : Expansion F I) (entries : List ℕ) (result : Result X E) → IsFor s n w → (rules w.rules).expansion w.item ≡ Ok w.children
    → InsertsAll rules n w.children s entries u → OnOk result (Finishes (rules u.rules) n w.children entries u t) → OnOk result (Expanded rules n s t)
expanded_by rules s u t n w entries (Ok x) f e i done = record {
  children = w.children;
  expanding = record { entry = f.entry; stands = f.stands; taken = f.taken; expands = ap (λ v. (rules v).expansion f.entry.item) f.rules ∙ ap (rules w.rules).expansion f.item ∙ e };
  entries = entries;
  inserted = u;
  inserts = i;
  finishes = done;
}
expanded_by rules s u t n w entries (Err x) f e i done = _

pub left_by : {F I X E : Type 0} (rules : F → Rules I) (s u t : State F I) (n : ℕ) (children : List I) (entries : List ℕ) (result : Result X E) → InsertsAll rules n children s entries u
    → OnErr result (Left rules n u t) → OnErr result (Left rules n s t)
left_by rules s u t n children entries (Ok x) i l = _
left_by rules s u t n children entries (Err x) i l = left_on (inserts_of i.inserts) l

pub ordered_none : {F I : Type 0} (rules : F → Rules I) (n : ℕ) (s : State F I) (entries : List ℕ) → entries ≡ [] → InOrder rules n s entries s
ordered_none rules n s entries none = subst (λ w. InOrder rules n s w s) (sym none) none_yet

pub longer_next : (entries more : List ℕ) (entry child : ℕ) → more ≡ entries ++ entry ∷ [] → length entries ≡ child → length more ≡ child + 1
longer_next entries more entry child is at =
    let many = length-append entries (entry ∷ []) in
    let same : length more ≡ length (entries ++ entry ∷ []) = ap length is in
    omega arith

-- One more child is inserted.
pub ordered_next : {F I : Type 0} {rules : F → Rules I} {n child entry : ℕ} {s t u : State F I} {entries more : List ℕ} → InOrder rules n s entries t → length entries ≡ child
    → Inserted (rules t.rules) n child entry t u → more ≡ entries ++ entry ∷ [] → InOrder rules n s more u
ordered_next {rules = rules} {n = n} {s = s} {t = t} {u = u} {entries = entries} before at i is =
    subst (λ w. InOrder rules n s w u) (sym (is ∙ ap (λ m. entries ++ m ∷ []) i.entry_is))
    (then_next entries t u i.placed before (subst (λ k. Next (rules t.rules) t (Insert n k i.placed) u) (sym at) i.next))

pub takes_works : {F I : Type 0} (rules : F → Rules I) (s u t : State F I) (n : ℕ) (result : Result Turn StoreFail) → Next (rules s.rules) s (Take n) u → Works rules n u result t → Turns rules s result t
takes_works rules s u t n (Ok Finished) next works = record { entry = n; taken = u; takes = next; works = works }
takes_works rules s u t n (Ok Halted) next works = record { entry = n; taken = u; takes = next; works = works }
takes_works rules s u t n (Ok Nothing) next works = absurd works
takes_works rules s u t n (Ok Spent) next works = absurd works
takes_works rules s u t n (Ok Stopped) next works = absurd works
takes_works rules s u t n (Err e) next works = record { entry = n; taken = u; takes = next; works = works }

pub took_entry : {F I : Type 0} (r : Rules I) (s u : State F I) (n : ℕ) → Next r s (Take n) u → TakenEntry n u.core.entries
took_entry r s u n next =
    let says = step_says next.step in
    let taken : Entry _ = record says.entry { status = Taken } in
    subst (λ (c : Core _). TakenEntry n c.entries) (sym says.after) (record { entry = taken; stands = stands_set_same taken says.may.stands; taken = refl })

-- No turn changes the rules, the roots or the budget.
head_same : {F I : Type 0} (s : State F I) → SameHead s s
head_same s = record { rules = refl; roots = refl; budget = refl }

pub head_is : {F I : Type 0} (s t : State F I) → t ≡ s → SameHead s t
head_is s t is = subst (SameHead s) (sym is) (head_same s)

head_on : {F I : Type 0} {s t u : State F I} → SameHead s t → SameHead t u → SameHead s u
head_on h k = record { rules = k.rules ∙ h.rules; roots = k.roots ∙ h.roots; budget = k.budget ∙ h.budget }

head_next : {F I : Type 0} {r : Rules I} {s t : State F I} {e : Event} → Next r s e t → SameHead s t
head_next n = record {
  rules = ap (λ (v : State _ _). v.rules) n.same;
  roots = ap (λ (v : State _ _). v.roots) n.same;
  budget = ap (λ (v : State _ _). v.budget) n.same;
}

head_inserts : {F I : Type 0} {rules : F → Rules I} {s : State F I} {n : ℕ} {t : State F I} → Inserts rules n s t → SameHead s t
head_inserts nothing = head_same _
head_inserts (one_more t u child p before step) = head_on (head_inserts before) (head_next step)

head_works : {F I : Type 0} (rules : F → Rules I) (n : ℕ) (s : State F I) (answer : Result Turn StoreFail) (t : State F I) → Works rules n s answer t → SameHead s t
head_works rules n s (Ok Finished) t w = head_on (head_inserts (inserts_of w.inserts.inserts)) (head_next w.finishes.next)
head_works rules n s (Ok Halted) t w = head_next w.next
head_works rules n s (Ok Nothing) t w = absurd w
head_works rules n s (Ok Spent) t w = absurd w
head_works rules n s (Ok Stopped) t w = absurd w
head_works rules n s (Err Full) t w = head_inserts w.0.inserts
head_works rules n s (Err NoMemory) t w = head_inserts w.inserts

pub head_turn : {F I : Type 0} (rules : F → Rules I) (r : Rules I) (s u t : State F I) (n : ℕ) (answer : Result Turn StoreFail) → Next r s (Take n) u → Works rules n u answer t → SameHead s t
head_turn rules r s u t n answer next works = head_on (head_next next) (head_works rules n u answer t works)
