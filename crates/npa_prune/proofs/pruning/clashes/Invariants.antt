use Rattle.std.proofs.Common.{take, Contains}
use Rattle.npa_term.specs.declared.term.Term.{Term}
use Rattle.npa_model.specs.Covering.{HasSame}
use Rattle.npa_prune.proofs.pruning.clashes.Given as goal

abbrev pub invariant-loop-fact : goal.invariant-loop-fact
invariant-loop-fact l = (t : Term) → Contains (take l.fact-index l.fact-items) t → HasSame l.p.unknown t → ⊥
