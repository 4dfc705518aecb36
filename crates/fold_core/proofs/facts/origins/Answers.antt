use Rattle.fold_core.proofs.Stepping.{sound_after}
use Rattle.fold_core.proofs.facts.origins.Goals as goal

pub returns : goal.returns
returns g c = λ f roots budget history core a. (sound_after (g.met.F.Folding.lawful f) a).origins
