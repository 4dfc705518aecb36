-- What one turn of a worker does, in events of the machine.
use Rattle.std.specs.Prelude.{◌≡◌, ℕ, List, [], ◌∷◌, ◌++◌, length, Result, Ok, Err}
use Rattle.fold_core.specs.declared.error.Large.{Large}
use Rattle.fold_core.specs.declared.event.Placed.{Placed}
use Rattle.fold_core.specs.declared.event.Placed.TheVariants.{Kept, Folded}
use Rattle.fold_core.specs.declared.event.Event.TheVariants.{Take, Insert, Halt}
use Rattle.fold_core.specs.Rules.{Rules}
use Rattle.fold_core.specs.Machine.{Expanding}
use Rattle.fold_store.specs.declared.answer.Taken.TheVariants.{Nothing as NothingWaits, Spent as IsSpent, Stopped as IsStopped}
use Rattle.fold_store.specs.declared.error.StoreFail.{StoreFail}
use Rattle.fold_store.specs.declared.error.StoreFail.TheVariants.{Full, NoMemory}
use Rattle.fold_store.specs.Table.{TakenEntry}
use Rattle.fold_store.specs.Store.{State, Next, Takes, ChildOf, NoRoom, Inserts, Finishes}
use Rattle.fold_pool.specs.declared.turn.Turn.{Turn}
use Rattle.fold_pool.specs.declared.turn.Turn.TheVariants.{Finished, Halted, Nothing, Spent, Stopped}

-- The entry that an item was placed in.
abbrev pub entry_of : Placed → ℕ
entry_of (Kept n) = n
entry_of (Folded n) = n

-- The store goes by the inserts of the first children of entry n, in order, into these entries.
pub data InOrder {F I : Type 0} (rules : F → Rules I) (n : ℕ) (s : State F I) : List ℕ → State F I → Type 0 where
  none_yet : InOrder rules n s [] s
  then_next : (entries : List ℕ) (t u : State F I) (p : Placed) → InOrder rules n s entries t
      → Next (rules t.rules) t (Insert n (length entries) p) u → InOrder rules n s (entries ++ entry_of p ∷ []) u

-- The child of this number of entry n was inserted into this entry.
pub record Inserted {F I : Type 0} (r : Rules I) (n child entry : ℕ) (s t : State F I) : Type 0 where
  pub placed : Placed
  pub entry_is : entry ≡ entry_of placed
  pub next : Next r s (Insert n child placed) t

-- Each child of entry n was inserted, in order, into these entries.
pub record InsertsAll {F I : Type 0} (rules : F → Rules I) (n : ℕ) (children : List I) (s : State F I) (entries : List ℕ) (t : State F I) : Type 0 where
  pub inserts : InOrder rules n s entries t
  pub all : length entries ≡ length children

-- From the store where entry n is taken: each child is inserted, in order, and then the entry is
-- finished, with the entries of the inserts as hints.
pub record Expanded {F I : Type 0} (rules : F → Rules I) (n : ℕ) (s t : State F I) : Type 0 where
  pub children : List I
  pub expanding : Expanding (rules s.rules) n children s.core
  pub entries : List ℕ
  pub inserted : State F I
  pub inserts : InsertsAll rules n children s entries inserted
  pub finishes : Finishes (rules inserted.rules) n children entries inserted t

-- The search is halted by entry n.
pub record HaltedBy {F I : Type 0} (r : Rules I) (n : ℕ) (s t : State F I) : Type 0 where
  pub why : Large
  pub next : Next r s (Halt n why) t

-- Inserts of children of entry n were made, and the entry is taken still.
pub record Left {F I : Type 0} (rules : F → Rules I) (n : ℕ) (s t : State F I) : Type 0 where
  pub inserts : Inserts rules n s t
  pub taken : TakenEntry n t.core.entries

-- There is no room for some child of entry n.
pub record NoRoomIn {F I : Type 0} (r : Rules I) (n : ℕ) (t : State F I) : Type 0 where
  pub child : ℕ
  pub item : I
  pub child_of : ChildOf r t.core n child item
  pub no_room : NoRoom r item t.core

-- What is done with the taken entry n, by the answer.
abbrev pub Works : {F I : Type 0} → (F → Rules I) → ℕ → State F I → Result Turn StoreFail → State F I → Type 0
Works rules n s (Ok Finished) t = Expanded rules n s t
Works rules n s (Ok Halted) t = HaltedBy (rules s.rules) n s t
Works rules n s (Ok Nothing) t = ⊥
Works rules n s (Ok Spent) t = ⊥
Works rules n s (Ok Stopped) t = ⊥
Works rules n s (Err Full) t = Left rules n s t × NoRoomIn (rules t.rules) n t
Works rules n s (Err NoMemory) t = Left rules n s t

-- An entry is taken, and then that is done.
pub record TakesAndWorks {F I : Type 0} (rules : F → Rules I) (s : State F I) (answer : Result Turn StoreFail) (t : State F I) : Type 0 where
  pub entry : ℕ
  pub taken : State F I
  pub takes : Next (rules s.rules) s (Take entry) taken
  pub works : Works rules entry taken answer t

-- What a turn did, by its answer.
abbrev pub Turns : {F I : Type 0} → (F → Rules I) → State F I → Result Turn StoreFail → State F I → Type 0
Turns rules s (Ok Finished) t = TakesAndWorks rules s (Ok Finished) t
Turns rules s (Ok Halted) t = TakesAndWorks rules s (Ok Halted) t
Turns rules s (Ok Nothing) t = Takes (rules s.rules) s NothingWaits t
Turns rules s (Ok Spent) t = Takes (rules s.rules) s IsSpent t
Turns rules s (Ok Stopped) t = Takes (rules s.rules) s IsStopped t
Turns rules s (Err fail) t = TakesAndWorks rules s (Err fail) t

-- The rules, the roots and the budget are the same.
pub record SameHead {F I : Type 0} (s t : State F I) : Type 0 where
  pub rules : t.rules ≡ s.rules
  pub roots : t.roots ≡ s.roots
  pub budget : t.budget ≡ s.budget
