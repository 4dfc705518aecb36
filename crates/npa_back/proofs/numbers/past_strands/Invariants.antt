use Rattle.std.proofs.Common.{◌≡◌, drop}
use Rattle.std.specs.Prelude.{max, flat_map}
use Rattle.npa_variants.specs.Search.{past}
use Rattle.npa_model.specs.Fitting.{strand_variables}
use Rattle.npa_back.proofs.numbers.past_strands.Given as goal

abbrev pub invariant-loop-p : goal.invariant-loop-p
invariant-loop-p l = max l.most (past (flat_map strand_variables (drop l.p-index l.strands))) ≡ past (flat_map strand_variables l.strands)
