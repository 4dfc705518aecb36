use Rattle.std.specs.Prelude.{◌≡◌, ℕ, ◌+◌, ◌<◌, ◌≤◌, Option, None, Some, position, nat_eq, ◌||◌, ◌&&◌, Bool, true, false, List, [], ◌∷◌, ◌++◌, map, length, slice_index_or, slice_set, ◌↔◌}
use Rattle.std.specs.declared.vec.Vec.{Vec}
use Rattle.std.specs.declared.alloc.Global.{Global}
use Rattle.npa_sorts.specs.Subsorts.{Subsorts, IsSort, IsBelow, AreSorts, names_fresh}

-- The order with one more pair.
abbrev pub with_pair : Subsorts → ℕ → ℕ → Subsorts
with_pair o lower upper = record { declared = o.declared; pairs = o.pairs ++ (lower, upper) ∷ [] }

-- The order with one more declared sort.
abbrev pub with_sort : Subsorts → Subsorts
with_sort o = record { declared = o.declared + 1; pairs = o.pairs }

-- The rows of a table as lists.
abbrev pub rows_of : List (Vec Bool Global) → List (List Bool)
rows_of rows = map (λ row. row.items) rows

-- The entry of a table of rows, `false` outside it.
abbrev pub entry : List (List Bool) → ℕ → ℕ → Bool
entry rows s t = slice_index_or (slice_index_or rows s []) t false

-- The entry after each sort that is at or below `lower` was put below what `above` marks.
abbrev pub raised_entry : List (List Bool) → ℕ → List Bool → ℕ → ℕ → Bool
raised_entry rows lower above s t =
    entry rows s t || ((nat_eq s lower || entry rows s lower) && slice_index_or above t false)

-- The rows with one more sort: no sort is below it, and it is below all that is at or above `Msg`.
abbrev pub grown_rows : List (List Bool) → List (List Bool)
grown_rows rows =
    map (λ row. row ++ false ∷ []) rows ++ (slice_set (slice_index_or rows 0 []) 0 true ++ false ∷ []) ∷ []

-- A table of as many rows as columns.
pub record IsSquare (size : ℕ) (rows : List (List Bool)) : Type 0 where
  pub height : length rows ≡ size
  pub width : (s : ℕ) → s < size → length (slice_index_or rows s []) ≡ size

-- The first sort that a table of a size marks as below itself, where it marks one.
abbrev pub IsFirstMarked : List (List Bool) → ℕ → Option ℕ → Type 0
IsFirstMarked rows size None = (s : ℕ) → s < size → entry rows s s ≡ false
IsFirstMarked rows size (Some s) =
    (s < size) × (entry rows s s ≡ true) × ((r : ℕ) → r < s → entry rows r r ≡ false)

-- A table with a row and a column for each sort, which says of each two whether the first is
-- strictly below the second.
pub record IsTable (o : Subsorts) (rows : List (List Bool)) : Type 0 where
  pub square : IsSquare (o.declared + 2) rows
  pub exact : (s t : ℕ) → IsSort o s → IsSort o t → (entry rows s t ≡ true) ↔ IsBelow o s t

-- The table of an order: few enough sorts for 16 bits, pairs of sorts that don't name `Fresh`, and
-- no sort strictly below itself.
pub record IsOrder (o : Subsorts) (rows : List (List Bool)) : Type 0 where
  pub few : o.declared ≤ 65533
  pub sorts : AreSorts o
  pub apart : position names_fresh o.pairs ≡ None
  pub acyclic : (s : ℕ) → IsBelow o s s → ⊥
  pub table : IsTable o rows
