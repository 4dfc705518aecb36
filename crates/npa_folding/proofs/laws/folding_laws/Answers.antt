use Rattle.npa_folding.proofs.Lawfulness.{rules_lawful, item_covers, item_exact}
use Rattle.npa_folding.proofs.laws.folding_laws.Goals as goal

pub returns-clause-lawful : goal.returns-clause-lawful
returns-clause-lawful c children protocol = rules_lawful protocol children

pub returns-clause-covers : goal.returns-clause-covers
returns-clause-covers c = item_covers

pub returns-clause-fit : goal.returns-clause-fit
returns-clause-fit c protocol t s first second covers = item_exact protocol t s first second covers
