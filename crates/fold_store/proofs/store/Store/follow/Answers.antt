use Rattle.std.proofs.Common.{subst}
use Rattle.fold_core.specs.Machine.{Entry, Stands, LiveCover}
use Rattle.fold_store.specs.Store.{State}
use Rattle.fold_store.proofs.store.Store.follow.Goals as goal

pub returns-clause-covers : goal.returns-clause-covers
returns-clause-covers g c =
    subst (λ (w : State _ _). (e : Entry _) → Stands w.core.entries c.args.id e → LiveCover (g.F.Folding.rules w.rules) e.item c.follow.result w.core.entries) c.self.view_is c.follow.ensures.covers
