use Rattle.npa_model.proofs.Asking.{asked_met, met_asked}
use Rattle.npa_model.proofs.pattern_laws.asking_laws.Goals as goal

pub returns : goal.returns
returns c = λ th sig strands run sent values parts chosen cancel are. (
  asked_met th cancel sig strands run sent values are.each,
  met_asked th cancel sig strands run sent values are.each parts chosen,
)
