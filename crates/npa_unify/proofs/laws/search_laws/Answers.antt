use Rattle.npa_unify.proofs.Steps.{unfolded}
use Rattle.npa_unify.proofs.laws.search_laws.Goals as goal

pub returns : goal.returns
returns c = record { unfolds = unfolded }
