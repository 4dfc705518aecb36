use Rattle.std.proofs.Common.{◌≡◌, drop, flat_map}
use Rattle.npa_term.specs.Numbering.{once_after}
use Rattle.npa_term.specs.Variables.{variables}
use Rattle.npa_term.proofs.numbers.+numbers.Given as goal

abbrev pub invariant-add_variables_of-loop-t : goal.invariant-add_variables_of-loop-t
invariant-add_variables_of-loop-t l =
    once_after l.seen.items (flat_map variables (drop l.t-index l.ts)) ≡ once_after l.initial.seen.items (flat_map variables l.ts)
