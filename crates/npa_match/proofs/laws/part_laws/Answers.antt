use Rattle.npa_term.proofs.Parts.{part_canonical, part_ground, part_agrees}
use Rattle.npa_match.proofs.laws.part_laws.Goals as goal

pub returns-clause-canonical : goal.returns-clause-canonical
returns-clause-canonical c = λ t u p e. part_canonical p e

pub returns-clause-ground : goal.returns-clause-ground
returns-clause-ground c = λ t u p e. part_ground p e

pub returns-clause-agreeing : goal.returns-clause-agreeing
returns-clause-agreeing c = λ decl t u p a. part_agrees decl p a
