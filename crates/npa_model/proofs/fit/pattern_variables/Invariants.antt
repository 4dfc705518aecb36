use Rattle.std.proofs.Common.{◌≡◌, take, flat_map}
use Rattle.npa_model.specs.Fitting.{strand_variables}
use Rattle.npa_model.proofs.fit.pattern_variables.Given as goal

abbrev pub invariant-loop-p : goal.invariant-loop-p
invariant-loop-p l = l.vars ≡ flat_map strand_variables (take l.p-index l.p-items)
