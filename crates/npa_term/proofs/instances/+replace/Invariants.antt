use Rattle.std.proofs.Common.{◌≡◌, map, take}
use Rattle.npa_term.specs.Bound.{applied}
use Rattle.npa_term.proofs.instances.+replace.Given as goal

abbrev pub invariant-loop-arg : goal.invariant-loop-arg
invariant-loop-arg l = l.made.items ≡ map (applied l.s) (take l.arg-index l.arg-items)
