use Rattle.std.proofs.Common.{◌⊎◌, take, Contains}
use Rattle.npa_model.specs.declared.pattern.PStrand.{PStrand}
use Rattle.npa_prune.specs.Pruned.{HasReducible}
use Rattle.npa_prune.proofs.reducible.is_strand_reducible.Given as goal

abbrev pub invariant-loop-p : goal.invariant-loop-p
invariant-loop-p l = (p : PStrand) → Contains (take l.p-index l.strands) p → HasReducible l.th p.args ⊎ HasReducible l.th p.msgs → ⊥
