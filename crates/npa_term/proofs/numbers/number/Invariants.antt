use Rattle.std.proofs.Common.{◌≡◌, take}
use Rattle.npa_term.specs.Numbering.{numbered}
use Rattle.npa_term.proofs.numbers.number.Given as goal

abbrev pub invariant-loop-i : goal.invariant-loop-i
invariant-loop-i l = l.bindings.items ≡ numbered 0 (take l.i l.vars)
