use Rattle.std.proofs.Common.{◌≡◌, drop}
use Rattle.npa_variants.specs.Search.{are_normal}
use Rattle.npa_variants.proofs.making.are_normal.Given as goal

abbrev pub invariant-loop-t : goal.invariant-loop-t
invariant-loop-t l = are_normal l.th (drop l.t-index l.ts) ≡ are_normal l.th l.ts
