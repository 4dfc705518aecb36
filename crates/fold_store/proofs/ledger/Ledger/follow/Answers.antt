use Rattle.std.proofs.Common.{subst}
use Rattle.fold_core.specs.Machine.{After}
use Rattle.fold_core.specs.Facts.{Leads}
use Rattle.fold_core.proofs.Soundness.{pointers_of}
use Rattle.fold_core.proofs.Stepping.{sound_after}
use Rattle.fold_store.specs.Store.{State}
use Rattle.fold_store.proofs.Walks.{points_forward, leads_cover}
use Rattle.fold_store.proofs.ledger.Ledger.follow.Goals as goal

pub follow-requires-clause-forward : goal.follow-requires-clause-forward
follow-requires-clause-forward g c = points_forward (pointers_of (sound_after (g.met.F.Folding.lawful c.self.inside.rules) c.self.invariant.after))

pub returns-clause-covers : goal.returns-clause-covers
returns-clause-covers g c =
    let law = g.met.F.Folding.lawful c.args.self.now.rules in
    let after = subst (λ (w : State _ _). After (g.F.Folding.rules w.rules) w.roots w.budget w.history w.core) c.self.view_is c.self.invariant.after in
    let leads = subst (λ (w : State _ _). Leads w.core.entries c.args.id c.follow.result) c.self.view_is c.follow.ensures in
    leads_cover law (pointers_of (sound_after law after)) c.args.id c.follow.result leads
