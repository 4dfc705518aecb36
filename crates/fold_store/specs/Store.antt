-- What the calls on the store say: each is one event of the machine.
use Rattle.std.specs.Prelude.{◌<◌, ◌≡◌, ◌≢◌, ◌⊎◌, ℕ, ◌+◌, ◌≤◌, true, cond, List, [], ◌∷◌, ◌++◌, length, Option, None, Some, IsSome, slice_get, slice_set, map, take}
use Rattle.std.specs.List.{sum_by}
use Rattle.std.specs.Option.{option_map}
use Rattle.fold_core.specs.declared.error.Large.{Large}
use Rattle.fold_core.specs.declared.event.Placed.{Placed}
use Rattle.fold_core.specs.declared.event.Placed.TheVariants.{Folded}
use Rattle.fold_core.specs.declared.event.Origin.{Origin}
use Rattle.fold_core.specs.declared.event.Origin.TheVariants.{Root as FromRoot, Child}
use Rattle.fold_core.specs.declared.event.Status.{Status}
use Rattle.fold_core.specs.declared.event.Status.TheVariants.{Waiting, Taken as IsTaken, Finished, Retired}
use Rattle.fold_core.specs.declared.event.Event.{Event}
use Rattle.fold_core.specs.declared.event.Event.TheVariants.{Root, Take, Insert, Finish}
use Rattle.fold_core.specs.Rules.{Rules}
use Rattle.fold_core.specs.Machine.{Entry, Core, Stands, is_taken, least_cover, least_waiting, taken_count, NextRoot, Expanding, Settles, let_go, placed, place_of, Step, After}
use Rattle.fold_store.specs.declared.answer.Taken.{Taken}
use Rattle.fold_store.specs.declared.answer.Taken.TheVariants.{Got, Nothing, Spent, Stopped}
use Rattle.fold_store.specs.declared.answer.Verdict.{Verdict}
use Rattle.fold_store.specs.declared.answer.Verdict.TheVariants.{Found, Halted, Done, Open, Running}
use Rattle.fold_store.specs.declared.error.StoreFail.{StoreFail}
use Rattle.fold_store.specs.declared.error.StoreFail.TheVariants.{Full, NoMemory}
use Rattle.fold_store.specs.declared.error.InsertFail.{InsertFail}
use Rattle.fold_store.specs.declared.error.InsertFail.TheVariants.{Full as InsertFull, NoMemory as InsertNoMemory}
use Rattle.fold_store.specs.Table.{most_entries, AllFinished, TakenEntry, clip_status, clip_entry}
use Rattle.fold_store.specs.Work.{Expansion}
use Rattle.fold_store.specs.Hints.{HintSays, HintsSettle}

-- A store: what the search began with, the events so far, and the state that they led to.
pub record State (F I : Type 0) : Type 0 where
  pub rules : F
  pub roots : List I
  pub budget : ℕ
  pub history : List Event
  pub core : Core I

-- The store goes by this event of the machine, which its history gets, and by nothing else.
pub record Next {F I : Type 0} (r : Rules I) (s : State F I) (event : Event) (t : State F I) : Type 0 where
  pub step : Step r s.roots s.budget s.history s.core event t.core
  pub same : t ≡ record s { history = s.history ++ event ∷ []; core = t.core }

-- How many events an entry may still bring: that it is taken, and that it is finished.
abbrev pub owed_by : Status → ℕ
owed_by Waiting = 2
owed_by IsTaken = 1
owed_by Finished = 0
owed_by (Retired to tick taken) = cond taken 1 0

abbrev pub owed : {I : Type 0} → List (Entry I) → ℕ
owed es = sum_by (λ e. owed_by e.status) es

-- A search that isn't halted may be.
abbrev pub owed_halt : Option Large → ℕ
owed_halt None = 1
owed_halt (Some why) = 0

-- What the history led to, that there is room for the events that take no memory, and that there
-- are no more entries than a store may have.
pub record Sound {I : Type 0} (r : Rules I) (roots : List I) (budget : ℕ) (history : List Event) (core : Core I) (due : ℕ) : Type 0 where
  pub after : After r roots budget history core
  pub room : owed core.entries + owed_halt core.halted ≤ due
  pub few : length core.entries ≤ most_entries

-- The event by which an item of this origin is placed.
abbrev pub event_of : Origin → Placed → Event
event_of (FromRoot number) p = Root number p
event_of (Child parent child) p = Insert parent child p

-- The item x is the child of this number of the expansion of a taken entry.
pub record ChildOf {I : Type 0} (r : Rules I) (c : Core I) (parent child : ℕ) (x : I) : Type 0 where
  pub children : List I
  pub expanding : Expanding r parent children c
  pub stands : Stands children child x

-- The item x of this origin may be placed: it is the next root, or a child of a taken entry.
abbrev pub MayPlace : {F I : Type 0} → Rules I → State F I → Origin → I → Type 0
MayPlace r s (FromRoot number) x = NextRoot s.roots s.history number x
MayPlace r s (Child parent child) x = ChildOf r s.core parent child x

-- There is no room for the item x: it must be kept, since no live entry covers it, and the store
-- has as many entries as it may.
pub record NoRoom {I : Type 0} (r : Rules I) (x : I) (c : Core I) : Type 0 where
  pub uncovered : least_cover r x c.entries ≡ None
  pub many : length c.entries ≡ most_entries

-- Nothing was found, and the search isn't halted.
pub record GoesOn {I : Type 0} (c : Core I) : Type 0 where
  pub not_found : c.found ≡ None
  pub not_halted : c.halted ≡ None

-- What `take` did, by its answer.
abbrev pub Takes : {F I : Type 0} → Rules I → State F I → Taken → State F I → Type 0
Takes r s (Got n) t = Next r s (Take n) t
Takes r s Nothing t = (t ≡ s) × GoesOn s.core × (least_waiting s.core.entries ≡ None)
Takes r s Spent t = (t ≡ s) × GoesOn s.core × IsSome (least_waiting s.core.entries) × (taken_count s.core.entries + s.core.finished ≡ s.budget)
Takes r s Stopped t = (t ≡ s) × (IsSome s.core.found ⊎ IsSome s.core.halted)

-- The item of entry n, if there is such an entry.
abbrev pub item_at : {I : Type 0} → List (Entry I) → ℕ → Option I
item_at es n = option_map (λ e. e.item) (slice_get es n)

-- The work is that of entry n: the entry is taken, its item is the work's, and the rules are.
pub record IsFor {F I : Type 0} (s : State F I) (n : ℕ) (w : Expansion F I) : Type 0 where
  pub entry : Entry I
  pub stands : Stands s.core.entries n entry
  pub taken : is_taken entry.status ≡ true
  pub item : entry.item ≡ w.item
  pub rules : s.rules ≡ w.rules

-- There is no room for the child of this number.
pub record NoRoomFor {F I : Type 0} (r : Rules I) (s : State F I) (w : Expansion F I) (child : ℕ) : Type 0 where
  pub item : I
  pub stands : Stands w.children child item
  pub no_room : NoRoom r item s.core

abbrev pub insert_fail : StoreFail → InsertFail
insert_fail Full = InsertFull
insert_fail NoMemory = InsertNoMemory

-- How the search stands: the first of these that holds.
abbrev pub HasVerdict : {I : Type 0} → ℕ → Core I → Verdict → Type 0
HasVerdict budget c (Found n) = c.found ≡ Some n
HasVerdict budget c (Halted why) = (c.found ≡ None) × (c.halted ≡ Some why)
HasVerdict budget c Done = GoesOn c × AllFinished c.entries
HasVerdict budget c Open = GoesOn c × (AllFinished c.entries → ⊥) × (c.finished ≡ budget)
HasVerdict budget c Running = GoesOn c × (AllFinished c.entries → ⊥) × (c.finished ≢ budget)

-- The state with each tick brought down to the bound: what was retired since then was retired by
-- the event with the tick of the bound.
abbrev pub clipped : {I : Type 0} → ℕ → Core I → Core I
clipped bound c = record c { entries = map (clip_entry bound) c.entries }

-- The store goes by inserts of children of entry n alone.
pub data Inserts {F I : Type 0} (rules : F → Rules I) (n : ℕ) (s : State F I) : State F I → Type 0 where
  nothing : Inserts rules n s s
  one_more : (t u : State F I) (child : ℕ) (p : Placed) → Inserts rules n s t → Next (rules t.rules) t (Insert n child p) u → Inserts rules n s u

-- The store goes by inserts of children of entry n alone, each child once at most and in the order of
-- their numbers, which are below the bound.
pub data InsertsBelow {F I : Type 0} (rules : F → Rules I) (n : ℕ) (s : State F I) : ℕ → State F I → Type 0 where
  none_behind : (bound : ℕ) → InsertsBelow rules n s bound s
  one_behind : (t u : State F I) (child bound : ℕ) (p : Placed) → InsertsBelow rules n s child t → Next (rules t.rules) t (Insert n child p) u → child < bound → InsertsBelow rules n s bound u

abbrev pub InsertsOnce : {F I : Type 0} → (F → Rules I) → ℕ → State F I → State F I → Type 0
InsertsOnce rules n s t = (bound : ℕ) × InsertsBelow rules n s bound t

-- A child x of entry n was placed: its hint guides to an entry that it is folded into, and nothing
-- changes, or it is inserted.
pub data Settled {F I : Type 0} (r : Rules I) (n child : ℕ) (x : I) (hint : Option ℕ) (s : State F I) : Placed → State F I → Type 0 where
  folded : (into : ℕ) → HintSays r x hint s.core.entries (Some into) → Settled r n child x hint s (Folded into) s
  inserted : (p : Placed) (t : State F I) → HintSays r x hint s.core.entries None → p ≡ place_of r x s.core → Next r s (Insert n child p) t
      → t.core ≡ placed r (length s.history) x (Child n child) p s.core → Settled r n child x hint s p t

-- The events up to the start led to a state from which the children of entry n, placed so by one
-- event, lead to the state now, but for the ticks. Entry n is taken.
pub record Closing {F I : Type 0} (r : Rules I) (s : State F I) (start n : ℕ) (places : List Placed) : Type 0 where
  pub before : Core I
  pub after : After r s.roots s.budget (take start s.history) before
  pub start_is : length (take start s.history) ≡ start
  pub children : List I
  pub expanding : Expanding r n children before
  pub settles : Settles r start n 0 children places before (clipped start s.core)
  pub taken : TakenEntry n s.core.entries

-- The store once entry n, which is e, is let go by one event in place of those since the start.
abbrev pub closed : {F I : Type 0} → State F I → ℕ → ℕ → List Placed → Entry I → State F I
closed s start n places e = record s {
  history = take start s.history ++ Finish n places ∷ [];
  core = record s.core {
    entries = slice_set (map (clip_entry start) s.core.entries) n (record e { status = let_go (clip_status start e.status) });
    finished = s.core.finished + 1;
  };
}

-- Entry n is finished: one event places its children, each as the hint of the same place says.
pub record Finishes {F I : Type 0} (r : Rules I) (n : ℕ) (children : List I) (hints : List ℕ) (s t : State F I) : Type 0 where
  pub places : List Placed
  pub next : Next r s (Finish n places) t
  pub settled : Core I
  pub by_hints : HintsSettle r (length s.history) n hints 0 children places s.core settled

-- There is no room for some child.
pub record NoRoomForOne {F I : Type 0} (r : Rules I) (s : State F I) (w : Expansion F I) : Type 0 where
  pub child : ℕ
  pub no_room : NoRoomFor r s w child

-- The events that placed the roots from this number on, one after the other.
abbrev pub root_events : ℕ → List Placed → List Event
root_events n [] = []
root_events n (p ∷ ps) = Root n p ∷ root_events (n + 1) ps

-- The history has one event for each of so many roots, in order, and no other.
pub record RootsAlone (many : ℕ) (history : List Event) : Type 0 where
  pub places : List Placed
  pub number : length places ≡ many
  pub events : history ≡ root_events 0 places

-- The history begins with one event for each root, in order.
pub record Opens {I : Type 0} (roots : List I) (history : List Event) : Type 0 where
  pub begins : List Event
  pub rest : List Event
  pub alone : RootsAlone (length roots) begins
  pub is : history ≡ begins ++ rest

-- The root of this number was placed.
pub record PlacesRoot {F I : Type 0} (r : Rules I) (number : ℕ) (s t : State F I) : Type 0 where
  pub placed : Placed
  pub next : Next r s (Root number placed) t

-- With these roots and this budget a root is met for which there is no room.
pub record OpensFull {I : Type 0} (r : Rules I) (roots : List I) (budget : ℕ) : Type 0 where
  pub number : ℕ
  pub item : I
  pub stands : Stands roots number item
  pub history : List Event
  pub core : Core I
  pub alone : RootsAlone number history
  pub after : After r roots budget history core
  pub no_room : NoRoom r item core

-- A store with these rules, roots and budget whose roots are placed, and no more.
pub record Opened {F I : Type 0} (rules : F) (roots : List I) (budget : ℕ) (s : State F I) : Type 0 where
  pub rules_are : s.rules ≡ rules
  pub roots_are : s.roots ≡ roots
  pub budget_is : s.budget ≡ budget
  pub alone : RootsAlone (length roots) s.history
