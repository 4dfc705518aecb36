use Rattle.std.proofs.Common.{◌≡◌, ◌+◌, ◌-◌, ◌<◌, ◌^◌, min, drop}
use Rattle.npa_term.specs.Symbols.{all_count}
use Rattle.npa_model.proofs.pattern.all_symbols.Given as goal

abbrev pub invariant-loop-term : goal.invariant-loop-term
invariant-loop-term l = record {
  rest : min (l.sum + all_count (drop l.term-index l.terms)) (2 ^ 64 - 1) ≡ min (all_count l.terms) (2 ^ 64 - 1);
  fits : l.sum < 2 ^ 64;
}
