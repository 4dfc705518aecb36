use Rattle.std.proofs.Common.{take, Contains}
use Rattle.npa_term.specs.declared.term.Term.{Term}
use Rattle.npa_prune.specs.Pruned.{IsHeard}
use Rattle.npa_prune.proofs.early.is_one_heard.Given as goal

abbrev pub invariant-loop-value : goal.invariant-loop-value
invariant-loop-value l = (t : Term) → Contains (take l.value-index l.values) t → IsHeard l.g t → ⊥
