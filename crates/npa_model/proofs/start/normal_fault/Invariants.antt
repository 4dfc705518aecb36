use Rattle.std.proofs.Common.{◌≡◌, drop}
use Rattle.npa_rewrite.specs.Innermost.{normalized}
use Rattle.npa_model.specs.Instances.{normal_fault}
use Rattle.npa_model.proofs.start.normal_fault.Given as goal

abbrev pub invariant-loop-p : goal.invariant-loop-p
invariant-loop-p l = normal_fault (normalized l.th) l.k l.p (drop l.p l.args) ≡ normal_fault (normalized l.th) l.k 0 l.args
