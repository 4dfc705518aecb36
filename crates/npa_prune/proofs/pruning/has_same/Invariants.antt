use Rattle.std.proofs.Common.{take, Contains}
use Rattle.npa_term.specs.declared.term.Term.{Term}
use Rattle.npa_term.specs.Same.{Same}
use Rattle.npa_prune.proofs.pruning.has_same.Given as goal

abbrev pub invariant-loop-u : goal.invariant-loop-u
invariant-loop-u l = (u : Term) → Contains (take l.u-index l.terms) u → Same l.t u → ⊥
