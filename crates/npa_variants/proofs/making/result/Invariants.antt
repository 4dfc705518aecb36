use Rattle.std.proofs.Common.{◌≡◌, ◌++◌, map, take}
use Rattle.npa_term.specs.Bound.{applied}
use Rattle.npa_term.specs.Canonical.{canonical}
use Rattle.npa_rewrite.specs.Innermost.{normalized}
use Rattle.npa_variants.proofs.making.result.Given as goal

abbrev pub invariant-loop-t : goal.invariant-loop-t
invariant-loop-t l =
    l.row.items ≡ l.initial.row.items ++ map (λ t. normalized l.th (canonical (applied l.s t))) (take l.t-index l.terms)
