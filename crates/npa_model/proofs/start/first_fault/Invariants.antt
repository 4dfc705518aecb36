use Rattle.std.proofs.Common.{◌≡◌, drop}
use Rattle.npa_rewrite.specs.Innermost.{normalized}
use Rattle.npa_model.specs.Instances.{first_fault}
use Rattle.npa_model.proofs.start.first_fault.Given as goal

abbrev pub invariant-loop-k : goal.invariant-loop-k
invariant-loop-k l = first_fault (normalized l.th) l.protocol.sig l.protocol.strands l.k (drop l.k l.instances) ≡ first_fault (normalized l.th) l.protocol.sig l.protocol.strands 0 l.instances
