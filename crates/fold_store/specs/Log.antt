-- Which entries were retired, in order.
use Rattle.std.specs.Prelude.{◌≡◌, ℕ, ◌<◌, ◌≤◌, List, min}
use Rattle.fold_core.specs.Machine.{Stands}
use Rattle.fold_store.specs.declared.log.Mark.{Mark}

-- The ticks ascend.
pub record Ascends (marks : List Mark) : Type 0 where
  pub ascend : (j k : ℕ) (u v : Mark) → j ≤ k → Stands marks j u → Stands marks k v → u.tick ≤ v.tick

-- The number is marked with this tick or a later one.
pub record Marked (marks : List Mark) (number tick : ℕ) : Type 0 where
  pub place : ℕ
  pub mark : Mark
  pub stands : Stands marks place mark
  pub number_is : mark.number ≡ number
  pub since : tick ≤ mark.tick

-- The marks before this place have at most this tick.
pub record NoneNewer (bound place : ℕ) (marks : List Mark) : Type 0 where
  pub older : (k : ℕ) (mark : Mark) → k < place → Stands marks k mark → mark.tick ≤ bound

-- The mark with its tick brought down to the bound.
abbrev pub clip_mark : ℕ → Mark → Mark
clip_mark bound mark = record mark { tick = min mark.tick bound }
