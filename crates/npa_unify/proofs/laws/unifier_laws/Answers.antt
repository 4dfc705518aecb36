use Rattle.std.proofs.Common.{◌≡◌, true}
use Rattle.npa_unify.specs.Answers.{unifiers}
use Rattle.npa_unify.proofs.Answering.{answered, complete, none_exactly}
use Rattle.npa_unify.proofs.Choosing.{distinct_complete}
use Rattle.npa_unify.proofs.Keeping.{kept}
use Rattle.npa_unify.proofs.laws.unifier_laws.Goals as goal

pub returns : goal.returns
returns c = record {
  answers = answered;
  complete = λ o ps next sorts acyclic low. (
    complete o ps next sorts acyclic low,
    λ u unifier.
        let found = complete o ps next sorts acyclic low u unifier in
        distinct_complete o ps next u (unifiers o ps next) found.0 found.1 found.2,
  );
  none = none_exactly;
  kept = λ o p keeps. kept o (λ t. p t ≡ true) keeps;
}
