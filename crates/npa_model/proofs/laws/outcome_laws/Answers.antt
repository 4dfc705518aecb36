use Rattle.npa_model.proofs.AimLaws.{runs_or_breaks, reaches_or_misses, breaks_once, misses_once}
use Rattle.npa_model.proofs.laws.outcome_laws.Goals as goal

pub returns : goal.returns
returns c = record {
  runs_or_breaks = λ nf protocol run sent j why p q. runs_or_breaks nf protocol run p q;
  reaches_or_misses = λ nf protocol aim run k p q. reaches_or_misses nf protocol run aim p q;
  breaks_once = λ nf protocol run j k why because p q. breaks_once nf protocol run p q;
  misses_once = λ nf protocol aim run j k p q. misses_once nf protocol run aim p q;
}
