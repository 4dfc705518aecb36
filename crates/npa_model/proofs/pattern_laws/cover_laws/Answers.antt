use Rattle.npa_model.proofs.CoverLaws.{covers_itself, covers_through, covers_initial}
use Rattle.npa_model.proofs.MeetingLaws.{cover_meets}
use Rattle.npa_model.proofs.pattern_laws.cover_laws.Goals as goal

pub returns : goal.returns
returns c = record {
  reflexive = covers_itself;
  transitive = covers_through;
  initial = covers_initial;
  meets = λ th strands instances schedule standing sent t s u a w at cancel pairs cover does m. cover_meets th cancel pairs strands instances schedule standing sent t s u a w at cover does m;
}
