use Rattle.std.proofs.Common.{◌≡◌, ◌++◌, drop}
use Rattle.std.specs.Prelude.{zip}
use Rattle.npa_match.specs.Matching.{read_pairs}
use Rattle.npa_variants.proofs.covering.paired.Given as goal

abbrev pub invariant-loop-i : goal.invariant-loop-i
invariant-loop-i l = read_pairs l.pairs.items ++ zip (drop l.i l.row) (drop l.i l.other) ≡ zip l.row l.other
