use Rattle.std.proofs.Common.{◌≡◌, drop, map, length}
use Rattle.npa_term.specs.Parts.{least_sort}
use Rattle.npa_sig.specs.Parameters.{param_sorts}
use Rattle.npa_sig.specs.Sorting.{all_below}
use Rattle.npa_model.proofs.fit.are_below.Given as goal

abbrev pub invariant-loop-k : goal.invariant-loop-k
invariant-loop-k l = record {
  even : length l.args ≡ length (param_sorts l.strand);
  rest : all_below l.sig (map least_sort (drop l.k l.args)) (drop l.k (param_sorts l.strand)) ≡ all_below l.sig (map least_sort l.args) (param_sorts l.strand);
}
