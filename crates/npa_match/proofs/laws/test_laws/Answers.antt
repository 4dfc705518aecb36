use Rattle.npa_sorts.proofs.Climbs.{decides}
use Rattle.npa_term.proofs.Equality.{is_same_exact}
use Rattle.npa_match.proofs.laws.test_laws.Goals as goal

pub returns-clause-same : goal.returns-clause-same
returns-clause-same c = is_same_exact

pub returns-clause-below : goal.returns-clause-below
returns-clause-below c = decides
