use Rattle.std.proofs.Common.{◌≡◌, ◌++◌, map}
use Rattle.npa_back.specs.Told.{rule_of, step_by}
use Rattle.npa_back.proofs.results.add_all.Given as goal

abbrev pub invariant-loop-one : goal.invariant-loop-one
invariant-loop-one l = l.made ++ map (step_by (rule_of l.kind l.places)) l.one-iterator.rest.items ≡ l.fn.made ++ map (step_by (rule_of l.kind l.places)) l.fn.results
