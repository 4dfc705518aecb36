use Rattle.std.proofs.Common.{◌≡◌, ◌++◌, drop}
use Rattle.std.specs.List.{flat_map}
use Rattle.npa_term.specs.Variables.{variables}
use Rattle.npa_replay.specs.Groups.{numbers_of}
use Rattle.npa_replay.proofs.links.+variables.Given as goal

abbrev pub invariant-add_all_variables-loop-t : goal.invariant-add_all_variables-loop-t
invariant-add_all_variables-loop-t l = l.keys ++ numbers_of (flat_map variables (drop l.t-index l.ts)) ≡ l.initial.keys ++ numbers_of (flat_map variables l.ts)
