use Rattle.std.proofs.Common.{◌≡◌, map, take}
use Rattle.npa_sig.specs.Values.{under}
use Rattle.npa_model.proofs.values.+under.Given as goal

abbrev pub invariant-loop-arg : goal.invariant-loop-arg
invariant-loop-arg l = l.made.items ≡ map (under l.values) (take l.arg-index l.arg-items)
