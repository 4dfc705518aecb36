use Rattle.std.proofs.Common.{◌≡◌, length, map, drop}
use Rattle.npa_sig.specs.Sorting.{all_below}
use Rattle.npa_term.specs.Parts.{least_sort}
use Rattle.npa_sig.proofs.signature.Sig.all_below.Given as goal

abbrev pub invariant-loop-k : goal.invariant-loop-k
invariant-loop-k l = record {
  rest : all_below l.self (map least_sort (drop l.k l.args)) (drop l.k l.sorts) ≡ all_below l.self (map least_sort l.args) l.sorts;
  even : length l.args ≡ length l.sorts;
}
