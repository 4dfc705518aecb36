use Rattle.std.proofs.Common.{◌≡◌, min, ◌+◌, ◌<◌, ◌^◌, ◌-◌, drop}
use Rattle.npa_term.specs.Symbols.{symbol_count, all_count}
use Rattle.npa_term.proofs.size.+symbols.Given as goal

abbrev pub invariant-loop-arg : goal.invariant-loop-arg
invariant-loop-arg l = record {
  rest : min (l.sum + all_count (drop l.arg-index l.arg-items)) (2 ^ 64 - 1) ≡ min (symbol_count l.t) (2 ^ 64 - 1);
  fits : l.sum < 2 ^ 64;
}
