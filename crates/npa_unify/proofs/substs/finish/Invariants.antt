use Rattle.std.proofs.Common.{◌≡◌, take}
use Rattle.npa_unify.specs.Seen.{raw}
use Rattle.npa_unify.proofs.Ending.{values}
use Rattle.npa_unify.proofs.substs.finish.Given as goal

abbrev pub invariant-loop-at : goal.invariant-loop-at
invariant-loop-at l = l.s ≡ values (raw l.bound) (take l.at l.bound)
