use Rattle.std.proofs.Common.{◌≡◌, map, take}
use Rattle.fold_core.specs.Machine.{put_back_entry}
use Rattle.fold_numbers.proofs.replay.all_put_back.Given as goal

abbrev pub invariant-loop-kept : goal.invariant-loop-kept
invariant-loop-kept l = l.next.items ≡ map put_back_entry (take l.kept-index l.entries)
