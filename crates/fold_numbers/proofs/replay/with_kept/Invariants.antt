use Rattle.std.proofs.Common.{◌≡◌, map, take}
use Rattle.fold_core.specs.Machine.{overtaken}
use Rattle.fold_numbers.specs.Numbers.{numbers}
use Rattle.fold_numbers.proofs.replay.with_kept.Given as goal

abbrev pub invariant-loop-kept : goal.invariant-loop-kept
invariant-loop-kept l = l.next.items ≡ map (overtaken (numbers l.rules) l.item l.to l.tick) (take l.kept-index l.entries)
