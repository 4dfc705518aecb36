use Rattle.std.proofs.Common.{◌≡◌, drop}
use Rattle.npa_variants.specs.Strands.{with_params}
use Rattle.npa_variants.proofs.strands.push_params.Given as goal

abbrev pub invariant-loop-sort : goal.invariant-loop-sort
invariant-loop-sort l = with_params l.terms.items (drop l.sort-index l.sorts) ≡ with_params l.initial.terms.items l.sorts
