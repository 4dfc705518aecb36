use Rattle.std.proofs.Common.{◌≡◌, map, take}
use Rattle.npa_term.specs.Canonical.{canonical}
use Rattle.npa_term.proofs.canonical.+canon.Given as goal

abbrev pub invariant-loop-arg : goal.invariant-loop-arg
invariant-loop-arg l = l.made.items ≡ map canonical (take l.arg-index l.arg-items)
