use Rattle.std.proofs.Common.{◌≡◌, length, take}
use Rattle.npa_model.proofs.pattern.same_terms.Given as goal

abbrev pub invariant-loop-i : goal.invariant-loop-i
invariant-loop-i l = record {
  even : length l.ts ≡ length l.us;
  same : take l.i l.ts ≡ take l.i l.us;
}
