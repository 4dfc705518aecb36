use Rattle.npa_rewrite.proofs.Normalized.{normalized_form, normalized_is, own_form, gives_forms, same_form}
use Rattle.npa_rewrite.proofs.Reducing.{normalized_reduced}
use Rattle.npa_rewrite.proofs.laws.normalizing_laws.Goals as goal

pub returns : goal.returns
returns c = record {
  form = λ th t cancel. normalized_is th cancel t;
  canonical = λ th t cancel. (normalized_form th cancel t).settled;
  normal = own_form;
  reductions = normalized_reduced;
  gives = gives_forms;
  only = same_form;
}
