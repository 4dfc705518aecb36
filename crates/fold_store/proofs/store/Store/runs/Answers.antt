use Rattle.std.proofs.Common.{◌≡◌, length, subst}
use Rattle.fold_core.specs.Machine.{roots_placed}
use Rattle.fold_store.specs.Store.{State}
use Rattle.fold_store.proofs.Opening.{roots_all}
use Rattle.fold_store.proofs.store.Store.runs.Goals as goal

pub returns-clause-placed : goal.returns-clause-placed
returns-clause-placed g c = subst (λ (w : State _ _). roots_placed w.history ≡ length w.roots) c.self.view_is (roots_all c.runs.ensures.after c.self.invariant)
