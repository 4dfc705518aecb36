use Rattle.std.proofs.Common.{◌≡◌, drop}
use Rattle.std.specs.List.{list_all}
use Rattle.npa_model.specs.Fitting.{has_one_sort}
use Rattle.npa_model.proofs.fit.have_one_sort.Given as goal

abbrev pub invariant-loop-v : goal.invariant-loop-v
invariant-loop-v l = list_all (has_one_sort l.vars) (drop l.v-index l.vars) ≡ list_all (has_one_sort l.vars) l.vars
