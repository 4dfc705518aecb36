use Rattle.std.proofs.Common.{◌≡◌, ◌++◌, drop}
use Rattle.std.specs.Prelude.{flat_map, filter, not}
use Rattle.npa_variants.specs.Rows.{applications, is_among, parts}
use Rattle.npa_variants.specs.Told.{seen}
use Rattle.npa_variants.proofs.parts.+own.Given as goal

abbrev pub invariant-add_all_own-loop-t : goal.invariant-add_all_own-loop-t
invariant-add_all_own-loop-t l =
    seen l.own.items ++ filter (λ u. not (is_among (flat_map parts l.values) u)) (flat_map applications (drop l.t-index l.ts))
    ≡ seen l.initial.own.items ++ filter (λ u. not (is_among (flat_map parts l.values) u)) (flat_map applications l.ts)
