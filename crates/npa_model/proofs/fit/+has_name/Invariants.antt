use Rattle.std.proofs.Common.{◌≡◌, drop}
use Rattle.std.specs.List.{list_any}
use Rattle.npa_model.specs.Fitting.{has_name}
use Rattle.npa_model.proofs.fit.+has_name.Given as goal

abbrev pub invariant-loop-arg : goal.invariant-loop-arg
invariant-loop-arg l = list_any has_name (drop l.arg-index l.arg-items) ≡ has_name l.term
