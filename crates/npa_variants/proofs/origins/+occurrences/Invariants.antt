use Rattle.std.proofs.Common.{◌≡◌, drop, flat_map}
use Rattle.npa_term.specs.Numbering.{is_listed}
use Rattle.npa_term.specs.Variables.{variables}
use Rattle.npa_variants.proofs.origins.+occurrences.Given as goal

abbrev pub invariant-occurs_in-loop-t : goal.invariant-occurs_in-loop-t
invariant-occurs_in-loop-t l = is_listed (flat_map variables (drop l.t-index l.ts)) l.v ≡ is_listed (flat_map variables l.ts) l.v
