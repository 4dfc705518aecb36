use Rattle.npa_model.proofs.RunLaws.{one_break, whole_or_breaks}
use Rattle.npa_model.proofs.laws.break_laws.Goals as goal

pub returns : goal.returns
returns c = record {
  one_break = λ nf strands instances schedule j k why because p q. one_break nf strands instances p q;
  whole = λ nf strands instances schedule sent j why p q. whole_or_breaks nf strands instances p q;
}
