-- What a hint says of where a child is placed.
use Rattle.std.specs.Prelude.{◌≡◌, ℕ, ◌+◌, List, [], ◌∷◌, Option, None, Some, slice_get}
use Rattle.fold_core.specs.declared.event.Placed.{Placed}
use Rattle.fold_core.specs.declared.event.Placed.TheVariants.{Folded}
use Rattle.fold_core.specs.declared.event.Origin.TheVariants.{Child}
use Rattle.fold_core.specs.Rules.{Rules}
use Rattle.fold_core.specs.Machine.{Entry, Core, LiveCover, place_of, placed}
use Rattle.fold_core.specs.Facts.{Leads}

-- The hint for the item x is an entry, whose pointers lead to the entry `into`, and that covers x.
pub record Guides {I : Type 0} (r : Rules I) (x : I) (hint : Option ℕ) (into : ℕ) (es : List (Entry I)) : Type 0 where
  pub entry : ℕ
  pub hint_is : hint ≡ Some entry
  pub leads : Leads es entry into
  pub cover : LiveCover r x into es

-- The entry to which the hint guides, if it guides to one.
abbrev pub HintSays : {I : Type 0} → Rules I → I → Option ℕ → List (Entry I) → Option ℕ → Type 0
HintSays r x hint es (Some into) = Guides r x hint into es
HintSays r x hint es None = (into : ℕ) → Guides r x hint into es → ⊥

-- The item x is folded into the entry to which its hint guides; where it guides to none, it is
-- placed as by an event of its own.
pub data Hinted {I : Type 0} (r : Rules I) (x : I) (hint : Option ℕ) (c : Core I) : Placed → Type 0 where
  guided : (into : ℕ) → HintSays r x hint c.entries (Some into) → Hinted r x hint c (Folded into)
  unguided : (p : Placed) → HintSays r x hint c.entries None → p ≡ place_of r x c → Hinted r x hint c p

-- The children of an entry, from number k on, are placed one after the other, each as the hint of
-- the same place says, and lead from one state to another.
pub data HintsSettle {I : Type 0} (r : Rules I) (tick parent : ℕ) (hints : List ℕ) : ℕ → List I → List Placed → Core I → Core I → Type 0 where
  all_placed : (k : ℕ) (c : Core I) → HintsSettle r tick parent hints k [] [] c c
  then_placed : (k : ℕ) (x : I) (xs : List I) (p : Placed) (ps : List Placed) (c d : Core I)
      → Hinted r x (slice_get hints k) c p → HintsSettle r tick parent hints (k + 1) xs ps (placed r tick x (Child parent k) p c) d
      → HintsSettle r tick parent hints k (x ∷ xs) (p ∷ ps) c d
