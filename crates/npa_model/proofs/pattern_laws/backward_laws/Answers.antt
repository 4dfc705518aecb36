use Rattle.npa_model.proofs.MeetingLaws.{at_least, longer}
use Rattle.npa_model.proofs.Returning.{back_receive, back_last}
use Rattle.npa_model.proofs.pattern_laws.backward_laws.Goals as goal

pub returns : goal.returns
returns c = record {
  receive = λ nf strands instances schedule sent g chosen k bar p event m ex meets there at found gets last. back_receive nf strands instances ex meets k bar p event m there at found gets last;
  last = λ nf strands instances schedule sent g chosen none ex meets later. back_last nf strands instances none ex meets later;
  at_least = λ nf strands instances schedule sent g chosen meets. at_least nf strands instances meets;
  longer = λ nf strands instances schedule rest sent told g chosen shorter none meets. longer nf strands instances shorter none meets;
}
