-- What the parts of the plain program say.
use Rattle.std.specs.Prelude.{◌≡◌, ℕ, Bool, true, false, List}
use Rattle.fold_core.specs.declared.event.Placed.{Placed}
use Rattle.fold_core.specs.declared.event.Origin.{Origin}
use Rattle.fold_core.specs.declared.event.Event.{Event}
use Rattle.fold_numbers.specs.declared.replay.Problem.{Problem}
use Rattle.fold_core.specs.Rules.{Rules}
use Rattle.fold_numbers.specs.Numbers.{numbers}
use Rattle.fold_core.specs.Machine.{Entry, Core, Stands, is_taken, placed, place_of, Settles, Step, After}

-- Entry n is taken, and its item is x.
pub record TakenItem {I : Type 0} (c : Core I) (n : ℕ) (x : I) : Type 0 where
  pub entry : Entry I
  pub stands : Stands c.entries n entry
  pub taken : is_taken entry.status ≡ true
  pub item_is : entry.item ≡ x

-- Whether the event is allowed was answered rightly, and where it is it led to d.
pub record Ran {I : Type 0} (r : Rules I) (roots : List I) (budget : ℕ) (before : List Event) (c : Core I) (event : Event) (allowed : Bool) (d : Core I) : Type 0 where
  pub leads : allowed ≡ true → Step r roots budget before c event d
  pub refused : allowed ≡ false → (other : Core I) → Step r roots budget before c event other → ⊥

-- The same of the children of an entry, from number k on.
pub record RanAll {I : Type 0} (r : Rules I) (tick parent k : ℕ) (xs : List I) (ps : List Placed) (c : Core I) (allowed : Bool) (d : Core I) : Type 0 where
  pub leads : allowed ≡ true → Settles r tick parent k xs ps c d
  pub refused : allowed ≡ false → (other : Core I) → Settles r tick parent k xs ps c other → ⊥

-- Whether the item is placed so by an event of its own was answered rightly, and where it is that
-- led to d.
pub record Puts {I : Type 0} (r : Rules I) (tick : ℕ) (x : I) (origin : Origin) (p : Placed) (c : Core I) (allowed : Bool) (d : Core I) : Type 0 where
  pub place : allowed ≡ true → p ≡ place_of r x c
  pub leads : allowed ≡ true → d ≡ placed r tick x origin p c
  pub refused : allowed ≡ false → p ≡ place_of r x c → ⊥

-- The same in a search over numbers that begins so.
abbrev pub RanIn : Problem → List Event → Core ℕ → Event → Bool → Core ℕ → Type 0
RanIn p before c event allowed d = Ran (numbers p.rules) p.roots p.budget before c event allowed d

-- In a search over numbers that begins so, these events are allowed and lead to the state.
abbrev pub AfterIn : Problem → List Event → Core ℕ → Type 0
AfterIn p events c = After (numbers p.rules) p.roots p.budget events c
