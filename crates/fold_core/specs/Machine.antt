-- The machine that the store goes through: a pure machine whose history may come in any order, so
-- that each interleaving of the workers is one history (Lamport 1994, actions and behaviours).
use Rattle.std.specs.Prelude.{◌≡◌, ℕ, ◌+◌, ◌<◌, Bool, true, false, ◌&&◌, if◌then◌else◌, List, [], ◌∷◌, ◌++◌, length, map, Option, None, Some, Ok, Err, slice_get, slice_set}
use Rattle.std.specs.List.{position_from, count_by}
use Rattle.fold_core.specs.declared.error.Large.{Large}
use Rattle.fold_core.specs.declared.event.Placed.{Placed}
use Rattle.fold_core.specs.declared.event.Placed.TheVariants.{Kept, Folded}
use Rattle.fold_core.specs.declared.event.Origin.{Origin}
use Rattle.fold_core.specs.declared.event.Origin.TheVariants.{Root as FromRoot, Child}
use Rattle.fold_core.specs.declared.event.Status.{Status}
use Rattle.fold_core.specs.declared.event.Status.TheVariants.{Waiting, Taken, Finished, Retired}
use Rattle.fold_core.specs.declared.event.Event.{Event}
use Rattle.fold_core.specs.declared.event.Event.TheVariants.{Root, Take, Insert, Finish, Halt, Reset}
use Rattle.fold_core.specs.Rules.{Rules}

-- A kept item, where it comes from and how far it has come.
pub record Entry (I : Type 0) : Type 0 where
  pub item : I
  pub origin : Origin
  pub status : Status

-- The state: the entries by their numbers, the first kept initial entry, why the search was
-- halted, and how many expansions are finished.
pub record Core (I : Type 0) : Type 0 where
  pub entries : List (Entry I)
  pub found : Option ℕ
  pub halted : Option Large
  pub finished : ℕ

-- The state before the first event.
abbrev pub empty : {I : Type 0} → Core I
empty = record { entries = []; found = None; halted = None; finished = 0 }

-- x stands at place n of the list, from 0.
pub record Stands {X : Type 0} (xs : List X) (n : ℕ) (x : X) : Type 0 where
  pub is : slice_get xs n ≡ Some x

-- An entry that isn't retired is live.
abbrev pub is_live : Status → Bool
is_live Waiting = true
is_live Taken = true
is_live Finished = true
is_live (Retired to tick taken) = false

abbrev pub is_waiting : Status → Bool
is_waiting Waiting = true
is_waiting Taken = false
is_waiting Finished = false
is_waiting (Retired to tick taken) = false

-- A worker is expanding the entry. A retired one may still be taken.
abbrev pub is_taken : Status → Bool
is_taken Waiting = false
is_taken Taken = true
is_taken Finished = false
is_taken (Retired to tick taken) = taken

-- How many entries are taken, retired ones included.
abbrev pub taken_count : {I : Type 0} → List (Entry I) → ℕ
taken_count es = count_by (λ e. is_taken e.status) es

-- The least live entry that covers the item.
abbrev pub least_cover : {I : Type 0} → Rules I → I → List (Entry I) → Option ℕ
least_cover r x es = position_from (λ e. is_live e.status && r.covers e.item x) 0 es

-- The least waiting entry, which is live.
abbrev pub least_waiting : {I : Type 0} → List (Entry I) → Option ℕ
least_waiting es = position_from (λ e. is_waiting e.status) 0 es

-- Entry n is live and covers the item.
pub record LiveCover {I : Type 0} (r : Rules I) (x : I) (n : ℕ) (es : List (Entry I)) : Type 0 where
  pub entry : Entry I
  pub stands : Stands es n entry
  pub live : is_live entry.status ≡ true
  pub covers : r.covers entry.item x ≡ true

-- Entry e where the item x was kept as entry n by the event at the tick: retired, with a pointer
-- to n, where it was live and x covers it; and as it was otherwise.
abbrev pub overtaken : {I : Type 0} → Rules I → I → ℕ → ℕ → Entry I → Entry I
overtaken r x n tick e =
    if is_live e.status && r.covers x e.item then record e { status = Retired n tick (is_taken e.status) } else e

-- Found once an item was kept as entry n: the first that is initial stays.
abbrev pub first_found : Option ℕ → Bool → ℕ → Option ℕ
first_found (Some m) initial n = Some m
first_found None true n = Some n
first_found None false n = None

-- The state where the item is kept: it waits under the next number, and each live entry that it
-- covers is retired.
abbrev pub kept : {I : Type 0} → Rules I → ℕ → I → Origin → Core I → Core I
kept r tick x origin c = record c {
  entries = map (overtaken r x (length c.entries) tick) c.entries ++ record { item = x; origin = origin; status = Waiting } ∷ [];
  found = first_found c.found (r.initial x) (length c.entries);
}

-- The state where the item was placed so: a folded item changes nothing.
abbrev pub placed : {I : Type 0} → Rules I → ℕ → I → Origin → Placed → Core I → Core I
placed r tick x origin (Kept n) c = kept r tick x origin c
placed r tick x origin (Folded n) c = c

-- An item may be placed so: folded into a live entry that covers it, or kept under the next number
-- where no live entry covers it.
abbrev pub Accepts : {I : Type 0} → Rules I → I → Placed → Core I → Type 0
Accepts r x (Kept n) c = (n ≡ length c.entries) × (least_cover r x c.entries ≡ None)
Accepts r x (Folded n) c = LiveCover r x n c.entries

-- Where an item is placed: folded into the least live entry that covers it, and kept under the
-- next number where there is none.
abbrev pub place_at : Option ℕ → ℕ → Placed
place_at None n = Kept n
place_at (Some m) n = Folded m

abbrev pub place_of : {I : Type 0} → Rules I → I → Core I → Placed
place_of r x c = place_at (least_cover r x c.entries) (length c.entries)

-- The children of an entry, from number k on, are placed one after the other, each as `Accepts`
-- says, and lead from one state to another.
pub data Settles {I : Type 0} (r : Rules I) (tick parent : ℕ) : ℕ → List I → List Placed → Core I → Core I → Type 0 where
  settled : (k : ℕ) (c : Core I) → Settles r tick parent k [] [] c c
  settles : (k : ℕ) (x : I) (xs : List I) (p : Placed) (ps : List Placed) (c d : Core I)
      → Accepts r x p c → Settles r tick parent (k + 1) xs ps (placed r tick x (Child parent k) p c) d
      → Settles r tick parent k (x ∷ xs) (p ∷ ps) c d

-- Entry n is taken and its item expands to these children.
pub record Expanding {I : Type 0} (r : Rules I) (n : ℕ) (children : List I) (c : Core I) : Type 0 where
  pub entry : Entry I
  pub stands : Stands c.entries n entry
  pub taken : is_taken entry.status ≡ true
  pub expands : r.expansion entry.item ≡ Ok children

-- Entry n is taken and its item has a result past a limit.
pub record Overflowing {I : Type 0} (r : Rules I) (n : ℕ) (why : Large) (c : Core I) : Type 0 where
  pub entry : Entry I
  pub stands : Stands c.entries n entry
  pub taken : is_taken entry.status ≡ true
  pub expands : r.expansion entry.item ≡ Err why

-- The entry once its children are placed: it isn't taken any more, and is finished unless it was
-- retired.
abbrev pub let_go : Status → Status
let_go Waiting = Finished
let_go Taken = Finished
let_go Finished = Finished
let_go (Retired to tick taken) = Retired to tick false

-- The entry after a reset: a taken live one waits again, and no retired one is taken.
abbrev pub put_back : Status → Status
put_back Waiting = Waiting
put_back Taken = Waiting
put_back Finished = Finished
put_back (Retired to tick taken) = Retired to tick false

abbrev pub put_back_entry : {I : Type 0} → Entry I → Entry I
put_back_entry e = record e { status = put_back e.status }

abbrev pub is_root : Event → Bool
is_root (Root number p) = true
is_root (Take n) = false
is_root (Insert parent child p) = false
is_root (Finish n ps) = false
is_root (Halt n why) = false
is_root Reset = false

-- How many roots were placed.
abbrev pub roots_placed : List Event → ℕ
roots_placed history = count_by is_root history

-- A root of this number may be placed: it is the next, and nothing but roots was placed before.
pub record NextRoot {I : Type 0} (roots : List I) (before : List Event) (number : ℕ) (x : I) : Type 0 where
  pub next : number ≡ roots_placed before
  pub only_roots : roots_placed before ≡ length before
  pub root : Stands roots number x

-- Entry n may be taken: nothing was found, the search isn't halted, the taken and the finished
-- are below the budget, and n is the least entry that waits.
pub record MayTake {I : Type 0} (budget n : ℕ) (entry : Entry I) (c : Core I) : Type 0 where
  pub not_found : c.found ≡ None
  pub not_halted : c.halted ≡ None
  pub in_budget : taken_count c.entries + c.finished < budget
  pub least : least_waiting c.entries ≡ Some n
  pub stands : Stands c.entries n entry

-- After these events the machine may go by this one from one state to another. The tick of an
-- event is the number of events before it.
pub data Step {I : Type 0} (r : Rules I) (roots : List I) (budget : ℕ) (before : List Event) (c : Core I) : Event → Core I → Type 0 where
  root : (number : ℕ) (p : Placed) (x : I)
      → NextRoot roots before number x → p ≡ place_of r x c
      → Step r roots budget before c (Root number p) (placed r (length before) x (FromRoot number) p c)
  take : (n : ℕ) (e : Entry I)
      → MayTake budget n e c
      → Step r roots budget before c (Take n) (record c { entries = slice_set c.entries n (record e { status = Taken }) })
  insert : (parent child : ℕ) (p : Placed) (children : List I) (x : I)
      → Expanding r parent children c → Stands children child x → p ≡ place_of r x c
      → Step r roots budget before c (Insert parent child p) (placed r (length before) x (Child parent child) p c)
  finish : (n : ℕ) (ps : List Placed) (children : List I) (d : Core I) (e : Entry I)
      → Expanding r n children c → Settles r (length before) n 0 children ps c d → Stands d.entries n e
      → Step r roots budget before c (Finish n ps)
      (record d { entries = slice_set d.entries n (record e { status = let_go e.status }); finished = d.finished + 1 })
  halt : (n : ℕ) (why : Large)
      → c.halted ≡ None → Overflowing r n why c
      → Step r roots budget before c (Halt n why) (record c { halted = Some why })
  reset : Step r roots budget before c Reset (record c { entries = map put_back_entry c.entries })

-- The history is allowed event by event, and leads from the empty state to this one.
pub data After {I : Type 0} (r : Rules I) (roots : List I) (budget : ℕ) : List Event → Core I → Type 0 where
  begin : After r roots budget [] empty
  more : (before : List Event) (c : Core I) (event : Event) (d : Core I)
      → After r roots budget before c → Step r roots budget before c event d
      → After r roots budget (before ++ event ∷ []) d
