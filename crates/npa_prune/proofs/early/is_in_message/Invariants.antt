use Rattle.std.proofs.Common.{take, Contains}
use Rattle.npa_model.specs.declared.pattern.PStrand.{PStrand}
use Rattle.npa_prune.specs.Pruned.{IsPartOfOne}
use Rattle.npa_prune.proofs.early.is_in_message.Given as goal

abbrev pub invariant-loop-p : goal.invariant-loop-p
invariant-loop-p l = (p : PStrand) → Contains (take l.p-index l.strands) p → IsPartOfOne p.msgs l.t → ⊥
