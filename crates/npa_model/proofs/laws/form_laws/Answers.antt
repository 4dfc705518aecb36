use Rattle.npa_model.proofs.OneForm.{same_run, same_breaks, same_reaches, same_misses}
use Rattle.npa_model.proofs.laws.form_laws.Goals as goal

pub returns : goal.returns
returns c = record {
  runs = λ protocol nf mf run sent formed same r. same_run protocol formed nf mf same run sent r;
  breaks = λ protocol nf mf run j why formed same ground b. same_breaks protocol formed nf mf same run ground j why b;
  reaches = λ protocol nf mf aim run formed same aimed r. same_reaches protocol formed nf mf same run aim aimed r;
  misses = λ protocol nf mf aim run k formed same aimed m. same_misses protocol formed nf mf same run aim aimed k m;
}
