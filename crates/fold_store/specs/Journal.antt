-- A history that room is kept for.
use Rattle.std.specs.Prelude.{ℕ, List}
use Rattle.fold_core.specs.declared.event.Event.{Event}

-- The events, and for how many more there surely is room.
pub record Written : Type 0 where
  pub events : List Event
  pub due : ℕ
