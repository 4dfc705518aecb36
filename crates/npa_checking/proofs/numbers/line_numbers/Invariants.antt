use Rattle.std.proofs.Common.{◌≡◌, take}
use Rattle.npa_term.specs.Numbering.{numbered, variables_once}
use Rattle.npa_checking.proofs.numbers.line_numbers.Given as goal

abbrev pub invariant-loop-i : goal.invariant-loop-i
invariant-loop-i l = l.numbers ≡ numbered 1 (take l.i (variables_once l.terms))
