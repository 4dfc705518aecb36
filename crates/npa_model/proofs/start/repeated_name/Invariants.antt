use Rattle.std.proofs.Common.{◌≡◌, [], drop}
use Rattle.npa_model.specs.Instances.{first_again, fresh_names}
use Rattle.npa_model.proofs.start.repeated_name.Given as goal

abbrev pub invariant-loop-k : goal.invariant-loop-k
invariant-loop-k l = first_again l.seen.keys (fresh_names l.strands (drop l.k l.instances)) ≡ first_again [] (fresh_names l.strands l.instances)
