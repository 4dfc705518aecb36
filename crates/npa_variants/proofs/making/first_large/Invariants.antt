use Rattle.std.proofs.Common.{◌≡◌, drop, map}
use Rattle.npa_term.specs.Bound.{applied}
use Rattle.npa_variants.specs.Search.{first_large}
use Rattle.npa_variants.proofs.making.first_large.Given as goal

abbrev pub invariant-loop-t : goal.invariant-loop-t
invariant-loop-t l = first_large (map (applied l.s) (drop l.t-index l.ts)) ≡ first_large (map (applied l.s) l.ts)
