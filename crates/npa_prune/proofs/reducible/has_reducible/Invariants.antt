use Rattle.std.proofs.Common.{take, Contains}
use Rattle.npa_term.specs.declared.term.Term.{Term}
use Rattle.npa_rewrite.specs.Rewriting.{IsNormal}
use Rattle.npa_prune.proofs.reducible.has_reducible.Given as goal

abbrev pub invariant-loop-t : goal.invariant-loop-t
invariant-loop-t l = (t : Term) → Contains (take l.t-index l.terms) t → IsNormal l.th t
