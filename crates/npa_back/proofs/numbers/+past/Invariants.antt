use Rattle.std.proofs.Common.{◌≡◌, drop}
use Rattle.std.specs.Prelude.{max, flat_map}
use Rattle.npa_term.specs.Variables.{variables}
use Rattle.npa_variants.specs.Search.{past}
use Rattle.npa_back.proofs.numbers.+past.Given as goal

abbrev pub invariant-past_all-loop-t : goal.invariant-past_all-loop-t
invariant-past_all-loop-t l = max l.most (past (flat_map variables (drop l.t-index l.ts))) ≡ past (flat_map variables l.ts)
