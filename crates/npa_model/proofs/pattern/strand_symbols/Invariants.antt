use Rattle.std.proofs.Common.{◌≡◌, ◌+◌, ◌-◌, ◌<◌, ◌^◌, min, drop}
use Rattle.npa_model.specs.Patterns.{strand_symbols}
use Rattle.npa_model.proofs.pattern.strand_symbols.Given as goal

abbrev pub invariant-loop-strand : goal.invariant-loop-strand
invariant-loop-strand l = record {
  rest : min (l.sum + strand_symbols (drop l.strand-index l.strands)) (2 ^ 64 - 1) ≡ min (strand_symbols l.strands) (2 ^ 64 - 1);
  fits : l.sum < 2 ^ 64;
}
