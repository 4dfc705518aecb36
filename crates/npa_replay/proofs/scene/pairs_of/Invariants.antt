use Rattle.std.proofs.Common.{◌≡◌, ◌++◌, drop}
use Rattle.std.specs.Prelude.{zip}
use Rattle.npa_match.specs.Matching.{read_pairs}
use Rattle.npa_replay.proofs.scene.pairs_of.Given as goal

abbrev pub invariant-loop-i : goal.invariant-loop-i
invariant-loop-i l = read_pairs l.pairs ++ zip (drop l.i l.ts) (drop l.i l.us) ≡ zip l.ts l.us
