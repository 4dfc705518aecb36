use Rattle.std.proofs.Common.{◌≡◌}
use Rattle.npa_term.specs.Agreeing.{Agrees}
use Rattle.npa_term.specs.Canonical.{canonical}
use Rattle.npa_term.specs.Variables.{IsGround}
use Rattle.npa_term.proofs.Parts.{part_agrees, part_canonical, part_ground}
use Rattle.npa_match.proofs.Parts.{matched_forms, value_has}
use Rattle.npa_match.proofs.laws.matcher_laws.Goals as goal

pub returns-clause-canonical : goal.returns-clause-canonical
returns-clause-canonical c = value_has (λ u. canonical u ≡ u) (λ t u p e. part_canonical p e)

pub returns-clause-ground : goal.returns-clause-ground
returns-clause-ground c = value_has IsGround (λ t u p e. part_ground p e)

pub returns-clause-agreeing : goal.returns-clause-agreeing
returns-clause-agreeing c = λ decl. value_has (Agrees decl) (λ t u p a. part_agrees decl p a)

pub returns-clause-forms : goal.returns-clause-forms
returns-clause-forms c = matched_forms
