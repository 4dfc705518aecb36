use Rattle.std.proofs.Common.{◌≡◌, map, take}
use Rattle.npa_moves.specs.Finishing.{instance_of}
use Rattle.npa_drafts.proofs.instances.instances.Given as goal

abbrev pub invariant-loop-t : goal.invariant-loop-t
invariant-loop-t l = l.made.items ≡ map (instance_of l.s) (take l.t-index l.terms)
