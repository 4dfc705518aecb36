use Rattle.std.proofs.Common.{◌≡◌, drop}
use Rattle.std.specs.Prelude.{flat_map}
use Rattle.npa_variants.specs.Rows.{is_among, parts}
use Rattle.npa_variants.proofs.parts.+parts.Given as goal

abbrev pub invariant-have_part-loop-t : goal.invariant-have_part-loop-t
invariant-have_part-loop-t l = is_among (flat_map parts (drop l.t-index l.ts)) l.part ≡ is_among (flat_map parts l.ts) l.part
