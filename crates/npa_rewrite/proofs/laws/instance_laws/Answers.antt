use Rattle.npa_rewrite.proofs.FormLaws.{form_app, form_below, form_same, form_under, form_values}
use Rattle.npa_rewrite.proofs.InstanceSteps.{form_of_instance, normal_of_instance}
use Rattle.npa_rewrite.proofs.laws.instance_laws.Goals as goal

pub returns : goal.returns
returns c = record {
  normal = normal_of_instance;
  form = form_of_instance;
  arguments = λ th op ts cancel. form_app th cancel op ts;
  values = λ th s t cancel. form_values th cancel s t;
  parameters = λ th values t cancel. form_under th cancel values t;
  classes = λ th t u cancel pairs convergent same sorted. form_same th cancel pairs convergent t u same sorted;
  below = λ th t cancel. form_below th cancel t;
}
