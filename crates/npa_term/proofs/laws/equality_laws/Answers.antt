use Rattle.npa_term.specs.Same.{itself, through, below}
use Rattle.npa_term.proofs.SameLaws.{same_sym, same_applied, same_count}
use Rattle.npa_term.proofs.laws.equality_laws.Goals as goal

pub returns : goal.returns
returns c = record {
  reflexive = itself;
  symmetric = λ t u p. same_sym p;
  transitive = through;
  congruent = below;
  instances = λ s t u p. same_applied s p;
  sizes = λ t u p. same_count p;
}
