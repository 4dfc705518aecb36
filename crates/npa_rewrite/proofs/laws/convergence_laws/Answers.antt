use Rattle.npa_rewrite.proofs.Kept.{one_form, least_form}
use Rattle.npa_rewrite.proofs.laws.convergence_laws.Goals as goal

pub returns : goal.returns
returns c = record {
  one = one_form;
  least = least_form;
}
