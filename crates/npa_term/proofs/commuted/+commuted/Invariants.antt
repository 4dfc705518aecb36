use Rattle.std.proofs.Common.{◌≡◌, drop, length}
use Rattle.npa_term.specs.Computed.{all_same}
use Rattle.npa_term.proofs.commuted.+commuted.Given as goal

abbrev pub invariant-all_equal-loop-i : goal.invariant-all_equal-loop-i
invariant-all_equal-loop-i l = record {
  even : length l.ts ≡ length l.us;
  rest : all_same (drop l.i l.ts) (drop l.i l.us) ≡ all_same l.ts l.us;
}
