use Rattle.std.proofs.Common.{◌≡◌, ◌≤◌, ◌-◌, Ok}
use Rattle.npa_variants.specs.Search.{rows, searched}
use Rattle.npa_variants.specs.Told.{as_kept}
use Rattle.npa_variants.proofs.searching.searched.Given as goal

abbrev pub invariant-loop : goal.invariant-loop
invariant-loop l = record {
  within : l.counter ≤ l.levels;
  rest : searched 64 (λ k. Ok (rows k)) l.th l.m (l.levels - l.counter) (as_kept l.kept) ≡ searched 64 (λ k. Ok (rows k)) l.th l.m l.levels (as_kept l.fn.kept);
}
