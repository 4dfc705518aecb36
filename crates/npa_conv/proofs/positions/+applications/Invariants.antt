use Rattle.std.proofs.Common.{◌≡◌, ◌++◌, drop}
use Rattle.std.specs.Prelude.{flat_map}
use Rattle.npa_conv.specs.Places.{parts, seen}
use Rattle.npa_conv.proofs.positions.+applications.Given as goal

abbrev pub invariant-add_all_applications-loop-t : goal.invariant-add_all_applications-loop-t
invariant-add_all_applications-loop-t l = seen l.found.items ++ flat_map parts (drop l.t-index l.ts) ≡ seen l.initial.found.items ++ flat_map parts l.ts
