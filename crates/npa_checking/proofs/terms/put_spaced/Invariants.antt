use Rattle.std.proofs.Common.{◌≡◌, ◌++◌, drop}
use Rattle.npa_checking.specs.Lines.{spaced}
use Rattle.npa_checking.proofs.terms.put_spaced.Given as goal

abbrev pub invariant-loop-term : goal.invariant-loop-term
invariant-loop-term l = l.text.items ++ spaced l.sig l.numbers (drop l.term-index l.terms) ≡ l.fn.text.items ++ spaced l.sig l.numbers l.terms
