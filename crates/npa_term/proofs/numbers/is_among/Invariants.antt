use Rattle.std.proofs.Common.{◌≡◌, drop}
use Rattle.npa_term.specs.Numbering.{is_listed}
use Rattle.npa_term.proofs.numbers.is_among.Given as goal

abbrev pub invariant-loop-var : goal.invariant-loop-var
invariant-loop-var l = is_listed (drop l.var-index l.vars) l.v ≡ is_listed l.vars l.v
