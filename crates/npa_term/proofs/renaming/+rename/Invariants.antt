use Rattle.std.proofs.Common.{◌≡◌, map, take}
use Rattle.npa_term.specs.Symbols.{symbol_count}
use Rattle.npa_term.specs.Variables.{renamed}
use Rattle.npa_term.proofs.renaming.+rename.Given as goal

abbrev pub decreases-rename : goal.decreases-rename
decreases-rename l = symbol_count l.t.now

abbrev pub invariant-loop-arg : goal.invariant-loop-arg
invariant-loop-arg l = l.made.items ≡ map (renamed l.base) (take l.arg-index l.arg-items)
