use Rattle.npa_folding.proofs.Equalities.{equal_exact}
use Rattle.npa_folding.proofs.laws.equality_laws.Goals as goal

pub returns : goal.returns
returns c = equal_exact
