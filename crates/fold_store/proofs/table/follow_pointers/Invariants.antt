use Rattle.std.proofs.Common.{ℕ, ◌<◌, ◌-◌, length}
use Rattle.fold_core.specs.Facts.{Leads}
use Rattle.fold_store.proofs.table.follow_pointers.Given as goal

abbrev pub invariant-loop-to : goal.invariant-loop-to
invariant-loop-to g l = record {
  within : l.at < length l.entries;
  on : (last : ℕ) → Leads l.entries l.at last → Leads l.entries l.from last;
}

abbrev pub decreases-loop-to : goal.decreases-loop-to
decreases-loop-to g l = length l.entries - l.at
