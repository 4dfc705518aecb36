use Rattle.std.proofs.Common.{◌≡◌, ◌≤◌, take}
use Rattle.fold_core.specs.Machine.{taken_count}
use Rattle.fold_numbers.proofs.replay.count_taken.Given as goal

abbrev pub invariant-loop-kept : goal.invariant-loop-kept
invariant-loop-kept l = record {
  so_far : l.count ≡ taken_count (take l.kept-index l.entries);
  few : l.count ≤ l.kept-index;
}
