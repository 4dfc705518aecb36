use Rattle.std.proofs.Common.{◌≡◌, drop, find, flat_map}
use Rattle.npa_term.specs.Variables.{variables}
use Rattle.npa_variants.specs.Origins.{fails_in}
use Rattle.npa_variants.proofs.origins.+faults.Given as goal

abbrev pub invariant-fault_in-loop-t : goal.invariant-fault_in-loop-t
invariant-fault_in-loop-t l =
    find (fails_in l.marks l.events l.fresh l.messages) (flat_map variables (drop l.t-index l.terms))
    ≡ find (fails_in l.marks l.events l.fresh l.messages) (flat_map variables l.terms)
