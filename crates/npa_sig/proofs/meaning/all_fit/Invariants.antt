use Rattle.std.proofs.Common.{◌≡◌, length, map, drop}
use Rattle.npa_sig.specs.Meaning.{all_fit, sort_at}
use Rattle.npa_sig.proofs.meaning.all_fit.Given as goal

abbrev pub invariant-loop-k : goal.invariant-loop-k
invariant-loop-k l = record {
  rest : all_fit l.sig (map (sort_at l.sig l.scope l.bytes) (drop l.k l.args)) (drop l.k l.sorts) ≡ all_fit l.sig (map (sort_at l.sig l.scope l.bytes) l.args) l.sorts;
  even : length l.args ≡ length l.sorts;
}
