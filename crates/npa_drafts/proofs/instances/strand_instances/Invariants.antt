use Rattle.std.proofs.Common.{◌≡◌, map, take}
use Rattle.npa_model.specs.Patterns.{map_strand}
use Rattle.npa_moves.specs.Finishing.{instance_of}
use Rattle.npa_drafts.proofs.instances.strand_instances.Given as goal

abbrev pub invariant-loop-p : goal.invariant-loop-p
invariant-loop-p l = l.made.items ≡ map (map_strand (instance_of l.s)) (take l.p-index l.strands)
