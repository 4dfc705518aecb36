use Rattle.std.proofs.Common.{take, Contains}
use Rattle.npa_model.specs.declared.pattern.PStrand.{PStrand}
use Rattle.npa_prune.proofs.Owning.{OwnsEarly}
use Rattle.npa_prune.proofs.early.is_early.Given as goal

abbrev pub invariant-loop-p : goal.invariant-loop-p
invariant-loop-p l = (p : PStrand) → Contains (take l.p-index l.p-items) p → OwnsEarly l.protocol.strands l.g p → ⊥
