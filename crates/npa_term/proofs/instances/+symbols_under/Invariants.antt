use Rattle.std.proofs.Common.{◌≡◌, min, map, ◌+◌, ◌<◌, ◌^◌, ◌-◌, drop}
use Rattle.npa_term.specs.Bound.{applied}
use Rattle.npa_term.specs.Symbols.{symbol_count, all_count}
use Rattle.npa_term.proofs.instances.+symbols_under.Given as goal

abbrev pub invariant-loop-arg : goal.invariant-loop-arg
invariant-loop-arg l = record {
  rest : min (l.sum + all_count (map (applied l.s) (drop l.arg-index l.arg-items))) (2 ^ 64 - 1) ≡ min (symbol_count (applied l.s l.t)) (2 ^ 64 - 1);
  fits : l.sum < 2 ^ 64;
}
