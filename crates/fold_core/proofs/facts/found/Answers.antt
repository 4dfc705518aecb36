use Rattle.fold_core.proofs.Histories.{found_after, folds_initial}
use Rattle.fold_core.proofs.facts.found.Goals as goal

pub returns-clause-kept : goal.returns-clause-kept
returns-clause-kept g c = λ f roots budget history core a. found_after a

pub returns-clause-folded : goal.returns-clause-folded
returns-clause-folded g c = λ f. folds_initial (g.met.F.Folding.lawful f)
