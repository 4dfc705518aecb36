use Rattle.npa_model.proofs.CoverLaws.{covers_itself, covers_through, covers_initial}
use Rattle.npa_subsume.proofs.Tested.{covers_exact, initial_exact}
use Rattle.npa_subsume.proofs.laws.covering_laws.Goals as goal

pub returns-clause-exact : goal.returns-clause-exact
returns-clause-exact c = covers_exact

pub returns-clause-initial : goal.returns-clause-initial
returns-clause-initial c = initial_exact

pub returns-clause-reflexive : goal.returns-clause-reflexive
returns-clause-reflexive c o t = (covers_exact o t t).1 (covers_itself o t)

pub returns-clause-transitive : goal.returns-clause-transitive
returns-clause-transitive c o t s r first second = (covers_exact o t r).1 (covers_through o t s r ((covers_exact o t s).0 first) ((covers_exact o s r).0 second))

pub returns-clause-starts : goal.returns-clause-starts
returns-clause-starts c o t s covers initial = (initial_exact t).1 (covers_initial o t s ((covers_exact o t s).0 covers) ((initial_exact s).0 initial))
