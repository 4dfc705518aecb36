use Rattle.std.proofs.Common.{◌≡◌, drop}
use Rattle.npa_model.specs.Instances.{sort_fault}
use Rattle.npa_sig.specs.Parameters.{param_sorts}
use Rattle.npa_model.proofs.start.sort_fault.Given as goal

abbrev pub invariant-loop-p : goal.invariant-loop-p
invariant-loop-p l = sort_fault l.sig l.k l.p (drop l.p l.args) (drop l.p (param_sorts l.strand)) ≡ sort_fault l.sig l.k 0 l.args (param_sorts l.strand)
