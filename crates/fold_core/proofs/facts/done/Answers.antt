use Rattle.fold_core.proofs.Histories.{done_after}
use Rattle.fold_core.proofs.facts.done.Goals as goal

pub returns : goal.returns
returns g c = λ f roots budget history core a. done_after (g.met.F.Folding.lawful f) a
