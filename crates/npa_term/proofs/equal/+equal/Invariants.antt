use Rattle.std.proofs.Common.{◌≡◌, length, take}
use Rattle.npa_term.proofs.equal.+equal.Given as goal

abbrev pub invariant-same_all-loop-i : goal.invariant-same_all-loop-i
invariant-same_all-loop-i l = record {
  even : length l.ts ≡ length l.us;
  same : take l.i l.ts ≡ take l.i l.us;
}
