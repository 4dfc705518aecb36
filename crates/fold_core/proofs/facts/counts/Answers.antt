use Rattle.fold_core.proofs.Counting.{counts_after}
use Rattle.fold_core.proofs.facts.counts.Goals as goal

pub returns : goal.returns
returns g c = λ f roots budget history core a. counts_after a
