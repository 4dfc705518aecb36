use Rattle.std.proofs.Common.{◌≡◌, map, drop}
use Rattle.npa_moves.specs.Finishing.{instance_of, kept_after, kept_once}
use Rattle.npa_drafts.proofs.instances.fact_instances.Given as goal

abbrev pub invariant-loop-t : goal.invariant-loop-t
invariant-loop-t l = kept_after l.kept (map (instance_of l.s) (drop l.t-index l.facts)) ≡ kept_once (map (instance_of l.s) l.facts)
