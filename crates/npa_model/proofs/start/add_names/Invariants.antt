use Rattle.std.proofs.Common.{◌≡◌, ◌++◌, drop}
use Rattle.npa_model.specs.Instances.{first_again, names_among}
use Rattle.npa_model.proofs.start.add_names.Given as goal

abbrev pub invariant-loop-i : goal.invariant-loop-i
invariant-loop-i l = record {
  rest : first_again l.seen.keys (names_among (drop l.i l.values)) ≡ first_again l.initial.seen.keys (names_among l.values);
  all : l.seen.keys ++ names_among (drop l.i l.values) ≡ l.initial.seen.keys ++ names_among l.values;
}
