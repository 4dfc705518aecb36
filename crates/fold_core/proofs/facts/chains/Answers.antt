use Rattle.fold_core.proofs.Soundness.{pointers_of}
use Rattle.fold_core.proofs.Stepping.{sound_after}
use Rattle.fold_core.proofs.Histories.{chains_of}
use Rattle.fold_core.proofs.facts.chains.Goals as goal

pub returns : goal.returns
returns g c = λ f roots budget history core a. chains_of (g.met.F.Folding.lawful f) (pointers_of (sound_after (g.met.F.Folding.lawful f) a))
