use Rattle.std.proofs.Common.{◌≡◌, drop}
use Rattle.npa_variants.specs.Ready.{lists_fault}
use Rattle.npa_variants.proofs.ready.check_origins.Given as goal

abbrev pub invariant-loop-at : goal.invariant-loop-at
invariant-loop-at l = lists_fault l.marks l.at (drop l.at l.strands) (drop l.at l.lists) ≡ lists_fault l.marks 0 l.strands l.lists
