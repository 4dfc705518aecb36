use Rattle.npa_model.proofs.Apart.{names_apart}
use Rattle.npa_model.proofs.Origins.{unheard, unheard_message}
use Rattle.npa_model.proofs.pattern_laws.freshness_laws.Goals as goal

pub returns : goal.returns
returns c = record {
  apart = λ strands instances i j k l n a b apart at there e f. names_apart strands instances apart i j k l n a b at there e f;
  unsent = λ nf strands instances schedule sent k n instance t originating apart ex there silent declares was part. unheard nf strands instances originating apart ex k instance there silent n declares t was part;
  unheard = λ nf strands instances schedule sent k n instance m place other event originating apart ex there silent declares executed next part. unheard_message nf strands instances originating apart ex k instance there silent n declares m place other event executed next part;
}
