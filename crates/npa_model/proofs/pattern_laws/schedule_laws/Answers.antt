use Rattle.npa_model.proofs.Shortening.{executed_sent, drop_receive}
use Rattle.npa_model.proofs.pattern_laws.schedule_laws.Goals as goal

pub returns : goal.returns
returns c = record {
  executed = λ nf strands instances schedule sent n place instance event ex l next. executed_sent nf strands instances ex n place l instance event next;
  without = λ nf strands instances schedule sent n done instance event ex c next gets. drop_receive nf strands instances ex n done c instance event next gets;
}
