use Rattle.std.proofs.Common.{refl}
use Rattle.npa_model.proofs.RunLaws.{one_outcome, one_list}
use Rattle.npa_model.proofs.laws.execution_laws.Goals as goal

pub returns : goal.returns
returns c = record {
  one_outcome = λ nf strands instances done sent i r s p q. one_outcome nf strands instances p q;
  one_list = λ nf strands instances schedule sent told p q. one_list nf strands instances p q refl;
}
