use Rattle.fold_core.proofs.Uniqueness.{one_state}
use Rattle.fold_core.proofs.facts.one_state.Goals as goal

pub returns : goal.returns
returns g c = λ f roots budget history core a other b. one_state b a
