use Rattle.std.proofs.Common.{◌≡◌, ◌-◌, replicate}
use Rattle.npa_variants.specs.Strands.{with_params}
use Rattle.npa_variants.proofs.strands.push_fresh.Given as goal

abbrev pub invariant-loop : goal.invariant-loop
invariant-loop l = with_params l.terms.items (replicate (l.count - l.counter) 1) ≡ with_params l.initial.terms.items (replicate l.count 1)
