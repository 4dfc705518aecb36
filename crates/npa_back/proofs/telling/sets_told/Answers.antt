use Rattle.std.proofs.Common.{Contains}
use Rattle.std.proofs.Common.{subst}
use Rattle.npa_back.proofs.telling.sets_told.Goals as goal

-- src/telling.rt:36:11
pub fact_sets-requires-clause-facts : goal.fact_sets-requires-clause-facts
fact_sets-requires-clause-facts c = λ t there. c.requires.known t (subst (λ ts. Contains ts t) c.as_slice-facts.ensures there)
