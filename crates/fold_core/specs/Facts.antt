-- What holds of the machine after every history.
use Rattle.std.specs.Prelude.{◌≡◌, ℕ, ◌<◌, ◌≤◌, Bool, true, false, List, length, Option, None, Some, Ok}
use Rattle.std.specs.List.{position_from, filter_map}
use Rattle.fold_core.specs.declared.event.Placed.{Placed}
use Rattle.fold_core.specs.declared.event.Placed.TheVariants.{Folded}
use Rattle.fold_core.specs.declared.event.Origin.{Origin}
use Rattle.fold_core.specs.declared.event.Origin.TheVariants.{Root as FromRoot, Child}
use Rattle.fold_core.specs.declared.event.Status.TheVariants.{Finished, Retired}
use Rattle.fold_core.specs.declared.event.Event.{Event}
use Rattle.fold_core.specs.declared.event.Event.TheVariants.{Root, Take, Insert, Finish, Halt, Reset}
use Rattle.fold_core.specs.Rules.{Rules}
use Rattle.fold_core.specs.Machine.{Entry, Core, Stands, is_live, LiveCover, Expanding, roots_placed, Step, After}

-- It holds of every history and of the state that it leads to.
abbrev pub Always : {I : Type 0} → Rules I → (List I → ℕ → List Event → Core I → Type 0) → Type 0
Always r Fact = (roots : List _) (budget : ℕ) (history : List Event) (core : Core _) → After r roots budget history core → Fact roots budget history core

-- A history leads to no other state.
abbrev pub OneState : {I : Type 0} → Rules I → List I → ℕ → List Event → Core I → Type 0
OneState r roots budget history core = (other : Core _) → After r roots budget history other → other ≡ core

-- Some live entry covers the item.
pub record Covered {I : Type 0} (r : Rules I) (x : I) (es : List (Entry I)) : Type 0 where
  pub by : ℕ
  pub cover : LiveCover r x by es

-- Entry n with the item x, retired at the tick, points to a later entry, which covers x and is live
-- or was retired at the same tick or later.
pub record Points {I : Type 0} (r : Rules I) (es : List (Entry I)) (n : ℕ) (x : I) (to tick : ℕ) : Type 0 where
  pub target : Entry I
  pub stands : Stands es to target
  pub later : n < to
  pub covers : r.covers target.item x ≡ true
  pub since : (next since : ℕ) (taken : Bool) → target.status ≡ Retired next since taken → tick ≤ since

-- Pointers: each retired entry points so. Hence no pruning is circular.
abbrev pub Pointers : {I : Type 0} → Rules I → List (Entry I) → Type 0
Pointers r es = (n : ℕ) (e : Entry _) (to tick : ℕ) (taken : Bool) → Stands es n e → e.status ≡ Retired to tick taken → Points r es n e.item to tick

-- The chain of pointers from the first entry ends in the second, which is live.
pub data Leads {I : Type 0} (es : List (Entry I)) : ℕ → ℕ → Type 0 where
  ends : (n : ℕ) (e : Entry I) → Stands es n e → is_live e.status ≡ true → Leads es n n
  follows : (n last : ℕ) (e : Entry I) (to tick : ℕ) (taken : Bool)
      → Stands es n e → e.status ≡ Retired to tick taken → Leads es to last → Leads es n last

-- The chain from entry n, whose item is x, ends in a live entry that covers x.
pub record Chained {I : Type 0} (r : Rules I) (es : List (Entry I)) (n : ℕ) (x : I) : Type 0 where
  pub last : ℕ
  pub leads : Leads es n last
  pub cover : LiveCover r x last es

-- Chains: so does each chain of pointers.
abbrev pub Chains : {I : Type 0} → Rules I → List (Entry I) → Type 0
Chains r es = (n : ℕ) (e : Entry _) → Stands es n e → Chained r es n e.item

-- No double: no live entry covers another live entry.
abbrev pub NoDouble : {I : Type 0} → Rules I → List (Entry I) → Type 0
NoDouble r es = (m n : ℕ) (d e : Entry _) → Stands es m d → Stands es n e
    → is_live d.status ≡ true → is_live e.status ≡ true → r.covers d.item e.item ≡ true → m ≡ n

-- The item x of entry n is the child of this number of the expansion of an earlier entry's item.
pub record Bears {I : Type 0} (r : Rules I) (es : List (Entry I)) (n : ℕ) (x : I) (parent child : ℕ) : Type 0 where
  pub entry : Entry I
  pub stands : Stands es parent entry
  pub earlier : parent < n
  pub children : List I
  pub expands : r.expansion entry.item ≡ Ok children
  pub is_child : Stands children child x

-- The item x of entry n is what the origin says: a root, or a child of its parent's expansion.
abbrev pub Springs : {I : Type 0} → Rules I → List I → List (Entry I) → ℕ → I → Origin → Type 0
Springs r roots es n x (FromRoot number) = Stands roots number x
Springs r roots es n x (Child parent child) = Bears r es n x parent child

-- Origin: each entry's item is a root or a child of its parent's expansion.
abbrev pub Origins : {I : Type 0} → Rules I → List I → List (Entry I) → Type 0
Origins r roots es = (n : ℕ) (e : Entry _) → Stands es n e → Springs r roots es n e.item e.origin

-- The item expands to a list, and each child in it is covered by a live entry.
pub record Expanded {I : Type 0} (r : Rules I) (x : I) (es : List (Entry I)) : Type 0 where
  pub children : List I
  pub expands : r.expansion x ≡ Ok children
  pub covered : (k : ℕ) (child : I) → Stands children k child → Covered r child es

-- Handled: each finished entry that isn't retired has its children covered, also where a cover was
-- retired between two inserts of its expansion.
abbrev pub Handled : {I : Type 0} → Rules I → List (Entry I) → Type 0
Handled r es = (n : ℕ) (e : Entry _) → Stands es n e → e.status ≡ Finished → Expanded r e.item es

-- The entry that an event finishes, if it is such an event.
abbrev pub finished_by : Event → Option ℕ
finished_by (Root number p) = None
finished_by (Take n) = None
finished_by (Insert parent child p) = None
finished_by (Finish n ps) = Some n
finished_by (Halt n why) = None
finished_by Reset = None

-- The entries of the finish events, in their order.
abbrev pub finishes : List Event → List ℕ
finishes history = filter_map finished_by history

-- Counts: finished is the number of finish events, they are on different entries, and it is at
-- most the budget.
pub record Counts {I : Type 0} (budget : ℕ) (history : List Event) (c : Core I) : Type 0 where
  pub number : c.finished ≡ length (finishes history)
  pub different : (i j n : ℕ) → Stands (finishes history) i n → Stands (finishes history) j n → i ≡ j
  pub in_budget : c.finished ≤ budget

-- Found: found is the first entry whose item is initial, so it is set exactly where an initial
-- item was kept.
pub record FindsInitial {I : Type 0} (r : Rules I) (c : Core I) : Type 0 where
  pub first : c.found ≡ position_from (λ e. r.initial e.item) 0 c.entries

-- In this state the event folds the item into entry n.
pub data Folds {I : Type 0} (r : Rules I) (roots : List I) (c : Core I) : Event → I → ℕ → Type 0 where
  root : (number : ℕ) (x : I) (n : ℕ) → Stands roots number x → Folds r roots c (Root number (Folded n)) x n
  insert : (parent child : ℕ) (children : List I) (x : I) (n : ℕ)
      → Expanding r parent children c → Stands children child x → Folds r roots c (Insert parent child (Folded n)) x n
  finish : (entry : ℕ) (places : List Placed) (children : List I) (k : ℕ) (x : I) (n : ℕ)
      → Expanding r entry children c → Stands children k x → Stands places k (Folded n) → Folds r roots c (Finish entry places) x n

-- Entry n has an initial item.
pub record InitialEntry {I : Type 0} (r : Rules I) (n : ℕ) (es : List (Entry I)) : Type 0 where
  pub entry : Entry I
  pub stands : Stands es n entry
  pub initial : r.initial entry.item ≡ true

-- Found, for what is folded: an initial item that is folded is folded into an initial entry.
abbrev pub FoldsInitial : {I : Type 0} → Rules I → Type 0
FoldsInitial r = (roots : List _) (budget : ℕ) (before : List Event) (event : Event) (c d : Core _) (x : _) (n : ℕ)
    → After r roots budget before c → Step r roots budget before c event d → Folds r roots c event x n
    → r.initial x ≡ true → InitialEntry r n d.entries

-- The search is done: all roots were placed, nothing was found, it wasn't halted, and every live
-- entry is finished.
pub record IsDone {I : Type 0} (roots : List I) (history : List Event) (c : Core I) : Type 0 where
  pub placed : roots_placed history ≡ length roots
  pub not_found : c.found ≡ None
  pub not_halted : c.halted ≡ None
  pub finished : (n : ℕ) (e : Entry I) → Stands c.entries n e → is_live e.status ≡ true → e.status ≡ Finished

-- The live entries are closed: they cover each root and each child of a live entry, and none of
-- them is initial.
pub record IsClosed {I : Type 0} (r : Rules I) (roots : List I) (es : List (Entry I)) : Type 0 where
  pub roots_covered : (number : ℕ) (x : I) → Stands roots number x → Covered r x es
  pub children_covered : (n : ℕ) (e : Entry I) → Stands es n e → is_live e.status ≡ true → Expanded r e.item es
  pub none_initial : (n : ℕ) (e : Entry I) → Stands es n e → is_live e.status ≡ true → r.initial e.item ≡ false

-- Done: where the search is done, the live entries are closed.
abbrev pub DoneIsClosed : {I : Type 0} → Rules I → List I → List Event → Core I → Type 0
DoneIsClosed r roots history c = IsDone roots history c → IsClosed r roots c.entries
