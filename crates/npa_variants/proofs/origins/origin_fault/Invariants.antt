use Rattle.std.proofs.Common.{◌≡◌, drop, length, map}
use Rattle.npa_sig.specs.Parameters.{param_sorts}
use Rattle.npa_variants.specs.Origination.{origin_fault}
use Rattle.npa_variants.proofs.origins.origin_fault.Given as goal

abbrev pub invariant-loop-at : goal.invariant-loop-at
invariant-loop-at l =
    origin_fault l.marks (length (param_sorts l.strand)) l.strand l.at (map (λ v. v.terms) (drop l.at l.variants))
    ≡ origin_fault l.marks (length (param_sorts l.strand)) l.strand 0 (map (λ v. v.terms) l.variants)
