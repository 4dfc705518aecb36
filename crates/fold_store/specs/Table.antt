-- The entries of a store, and what is kept beside them so that no call walks the retired ones.
use Rattle.std.specs.Prelude.{◌≡◌, ◌⊎◌, ℕ, ◌+◌, ◌<◌, ◌≤◌, ◌++◌, Bool, true, false, ◌&&◌, not, if◌then◌else◌, List, [], ◌∷◌, length, Option, None, Some, slice_get, slice_set, min}
use Rattle.fold_core.specs.declared.event.Origin.{Origin}
use Rattle.fold_core.specs.declared.event.Status.{Status}
use Rattle.fold_core.specs.declared.event.Status.TheVariants.{Waiting, Taken, Finished, Retired}
use Rattle.fold_core.specs.Rules.{Rules}
use Rattle.fold_core.specs.Machine.{Entry, Stands, is_live, is_waiting, is_taken, taken_count}
use Rattle.fold_core.specs.Facts.{Leads}
use Rattle.fold_store.specs.declared.forest.Node.{Node}
use Rattle.fold_store.specs.Forest.{SameInClass}
use Rattle.fold_store.specs.declared.log.Mark.{Mark}
use Rattle.fold_store.specs.Log.{Marked}

-- The most entries that a store has.
abbrev pub most_entries : ℕ
most_entries = 100000

-- The numbers, counted from n, of the entries that pass the test, ascending.
abbrev pub numbers_where : {I : Type 0} → (Entry I → Bool) → ℕ → List (Entry I) → List ℕ
numbers_where p n [] = []
numbers_where p n (e ∷ es) = if p e then n ∷ numbers_where p (n + 1) es else numbers_where p (n + 1) es

-- The numbers of the live entries, ascending.
abbrev pub live_numbers : {I : Type 0} → List (Entry I) → List ℕ
live_numbers es = numbers_where (λ e. is_live e.status) 0 es

-- There is such an element, and it passes the test.
abbrev pub passes : {X : Type 0} → (X → Bool) → Option X → Bool
passes p None = false
passes p (Some x) = p x

-- The item of entry n covers the item x, and the other way round.
abbrev pub covers_at : {I : Type 0} → Rules I → I → List (Entry I) → ℕ → Bool
covers_at r x es n = passes (λ e. r.covers e.item x) (slice_get es n)

abbrev pub covered_at : {I : Type 0} → Rules I → I → List (Entry I) → ℕ → Bool
covered_at r x es n = passes (λ e. r.covers x e.item) (slice_get es n)

-- The first number in the list that passes the test.
abbrev pub first_passing : (ℕ → Bool) → List ℕ → Option ℕ
first_passing p [] = None
first_passing p (n ∷ ns) = if p n then Some n else first_passing p ns

-- The entry once entry `to` retired it by the event at the tick.
abbrev pub retired_by : {I : Type 0} → ℕ → ℕ → Entry I → Entry I
retired_by to tick e = record e { status = Retired to tick (is_taken e.status) }

-- The entries once entry `to` retired entry n, and those of the list one after the other.
abbrev pub retire_option : {I : Type 0} → ℕ → ℕ → ℕ → List (Entry I) → Option (Entry I) → List (Entry I)
retire_option to tick n es None = es
retire_option to tick n es (Some e) = slice_set es n (retired_by to tick e)

abbrev pub retire_each : {I : Type 0} → ℕ → ℕ → List ℕ → List (Entry I) → List (Entry I)
retire_each to tick [] es = es
retire_each to tick (n ∷ ns) es = retire_each to tick ns (retire_option to tick n es (slice_get es n))

-- No entry below this number waits.
pub record NoneWaits {I : Type 0} (bound : ℕ) (es : List (Entry I)) : Type 0 where
  pub none : (n : ℕ) (e : Entry I) → n < bound → Stands es n e → is_waiting e.status ≡ false

-- What is kept beside the entries: the numbers of the live ones, a number below which none waits,
-- and how many are taken.
pub record Indexed {I : Type 0} (es : List (Entry I)) (live : List ℕ) (first taken : ℕ) : Type 0 where
  pub few : length es ≤ most_entries
  pub live_is : live ≡ live_numbers es
  pub none_waits : NoneWaits first es
  pub first_within : first ≤ length es
  pub taken_is : taken ≡ taken_count es

-- The numbers of a forest are those of the entries, and each class has one end of its pointers.
pub record Joined {I : Type 0} (es : List (Entry I)) (nodes : List Node) : Type 0 where
  pub many : length nodes ≡ length es
  pub end_of : ℕ → ℕ
  pub leads : (n : ℕ) (e : Entry I) → Stands es n e → Leads es n (end_of n)
  pub same : SameInClass end_of nodes

-- Each retired entry is marked in the log, by its tick or a later one.
pub record Logged {I : Type 0} (es : List (Entry I)) (marks : List Mark) : Type 0 where
  pub marked : (n : ℕ) (e : Entry I) (to tick : ℕ) (taken : Bool) → Stands es n e → e.status ≡ Retired to tick taken → Marked marks n tick

-- Entry n is taken.
pub record TakenEntry {I : Type 0} (n : ℕ) (es : List (Entry I)) : Type 0 where
  pub entry : Entry I
  pub stands : Stands es n entry
  pub taken : is_taken entry.status ≡ true

-- The entries once an item is kept as entry `to`, which retires those of the list.
abbrev pub with_kept : {I : Type 0} → ℕ → ℕ → List ℕ → I → Origin → List (Entry I) → List (Entry I)
with_kept to tick covered x origin es = retire_each to tick covered (es ++ record { item = x; origin = origin; status = Waiting } ∷ [])

-- The live entries are those that pass some test and those that don't.
pub record SplitsLive {I : Type 0} (covered others : List ℕ) (es : List (Entry I)) : Type 0 where
  pub test : Entry I → Bool
  pub covered_is : covered ≡ numbers_where (λ e. is_live e.status && test e) 0 es
  pub others_is : others ≡ numbers_where (λ e. is_live e.status && not (test e)) 0 es

-- Every live entry is finished.
pub record AllFinished {I : Type 0} (es : List (Entry I)) : Type 0 where
  pub finished : (n : ℕ) (e : Entry I) → Stands es n e → is_live e.status ≡ true → e.status ≡ Finished

abbrev pub is_finished : Status → Bool
is_finished Waiting = false
is_finished Taken = false
is_finished Finished = true
is_finished (Retired to tick taken) = false

-- Entry n isn't finished.
abbrev pub unfinished_at : {I : Type 0} → List (Entry I) → ℕ → Bool
unfinished_at es n = passes (λ e. not (is_finished e.status)) (slice_get es n)

-- Each pointer leads to a later entry.
pub record PointsForward {I : Type 0} (es : List (Entry I)) : Type 0 where
  pub later : (n : ℕ) (e : Entry I) (to tick : ℕ) (taken : Bool) → Stands es n e → e.status ≡ Retired to tick taken → n < to
  pub within : (n : ℕ) (e : Entry I) (to tick : ℕ) (taken : Bool) → Stands es n e → e.status ≡ Retired to tick taken → to < length es

-- The entry with its tick brought down to the bound.
abbrev pub clip_status : ℕ → Status → Status
clip_status bound Waiting = Waiting
clip_status bound Taken = Taken
clip_status bound Finished = Finished
clip_status bound (Retired to tick taken) = Retired to (min tick bound) taken

abbrev pub clip_entry : {I : Type 0} → ℕ → Entry I → Entry I
clip_entry bound e = record e { status = clip_status bound e.status }

-- The entries with the tick of entry n brought down to the bound, if there is such an entry.
abbrev pub clip_option : {I : Type 0} → ℕ → ℕ → List (Entry I) → Option (Entry I) → List (Entry I)
clip_option bound n es None = es
clip_option bound n es (Some e) = slice_set es n (clip_entry bound e)

-- The ticks of the entries that stand in the log from one place to another were brought down to the
-- bound; other entries stand as they were, or so too.
pub record ClipsMarked {I : Type 0} (bound from end : ℕ) (marks : List Mark) (es fs : List (Entry I)) : Type 0 where
  pub many : length fs ≡ length es
  pub either : (n : ℕ) (e : Entry I) → Stands es n e → Stands fs n e ⊎ Stands fs n (clip_entry bound e)
  pub clipped : (k : ℕ) (mark : Mark) (e : Entry I) → from ≤ k → k < end → Stands marks k mark → Stands es mark.number e → Stands fs mark.number (clip_entry bound e)

-- No entry was retired by an event past this tick.
pub record TicksWithin {I : Type 0} (bound : ℕ) (es : List (Entry I)) : Type 0 where
  pub within : (n : ℕ) (e : Entry I) (to tick : ℕ) (taken : Bool) → Stands es n e → e.status ≡ Retired to tick taken → tick ≤ bound
