use Rattle.std.proofs.Common.{◌≡◌, map, take}
use Rattle.npa_variants.specs.Variants.{variant_of}
use Rattle.npa_variants.proofs.finding.variants_of.Given as goal

abbrev pub invariant-loop-row : goal.invariant-loop-row
invariant-loop-row l = l.made.items ≡ map (variant_of l.vars) (take l.row-index l.rows)
