use Rattle.std.proofs.Common.{◌≡◌, drop}
use Rattle.std.specs.List.{list_all}
use Rattle.npa_model.specs.Fitting.{agree}
use Rattle.npa_model.proofs.fit.is_agreed.Given as goal

abbrev pub invariant-loop-w : goal.invariant-loop-w
invariant-loop-w l = list_all (agree l.v) (drop l.w-index l.vars) ≡ list_all (agree l.v) l.vars
