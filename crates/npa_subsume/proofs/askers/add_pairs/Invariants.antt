use Rattle.std.proofs.Common.{◌≡◌, ◌++◌, drop}
use Rattle.std.specs.Prelude.{zip}
use Rattle.npa_match.specs.Matching.{read_pairs}
use Rattle.npa_subsume.proofs.askers.add_pairs.Given as goal

abbrev pub invariant-loop-i : goal.invariant-loop-i
invariant-loop-i l = read_pairs l.pairs ++ zip (drop l.i l.ts) (drop l.i l.us) ≡ read_pairs l.initial.pairs ++ zip l.ts l.us
