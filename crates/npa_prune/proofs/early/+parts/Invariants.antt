use Rattle.std.proofs.Common.{take, Contains}
use Rattle.npa_term.specs.declared.term.Term.{Term}
use Rattle.npa_term.specs.Parts.{IsPart}
use Rattle.npa_prune.proofs.early.+parts.Given as goal

abbrev pub invariant-have_part-loop-u : goal.invariant-have_part-loop-u
invariant-have_part-loop-u l = (u : Term) → Contains (take l.u-index l.terms) u → IsPart l.t u → ⊥
