use Rattle.std.proofs.Common.{◌≡◌, length, take}
use Rattle.npa_model.proofs.pattern.same_strands.Given as goal

abbrev pub invariant-loop-i : goal.invariant-loop-i
invariant-loop-i l = record {
  even : length l.ps ≡ length l.qs;
  same : take l.i l.ps ≡ take l.i l.qs;
}
