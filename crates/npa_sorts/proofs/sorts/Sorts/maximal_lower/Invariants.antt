use Rattle.std.proofs.Common.{◌≡◌, ℕ, ◌<◌}
use Rattle.std.specs.Prelude.{Contains, ◌↔◌}
use Rattle.std.specs.List.{filter}
use Rattle.std.specs.List.Sorted.{IsStrictlyIncreasing}
use Rattle.npa_sorts.specs.Lowers.{is_maximal, numbers}
use Rattle.npa_sorts.specs.Subsorts.{IsMaximalLower}
use Rattle.npa_sorts.proofs.sorts.Sorts.maximal_lower.Given as goal

abbrev pub invariant-loop-r : goal.invariant-loop-r
invariant-loop-r l = record {
  maximal : (x : ℕ) → Contains l.found x ↔ ((x < l.r) × IsMaximalLower l.self l.s l.t x);
  ascending : IsStrictlyIncreasing l.found;
  value : l.found ≡ filter (is_maximal l.self l.s l.t) (numbers l.r);
}
