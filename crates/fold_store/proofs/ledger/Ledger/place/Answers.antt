use Rattle.std.proofs.Common.{rules, ◌≡◌, Some, None, length, ap, ◌∙◌}
use Rattle.fold_core.specs.Machine.{least_cover}
use Rattle.fold_core.specs.declared.event.Placed.TheVariants.{Kept, Folded}
use Rattle.fold_store.specs.Store.{State}
use Rattle.fold_store.proofs.Events.{placing, folds_into, keeps_as}
use Rattle.fold_store.proofs.ledger.Ledger.place.Goals as goal

pub write-requires : goal.write-requires
write-requires g c =
    let r = g.F.Folding.rules c.args.self.now.rules in
    let found : least_cover r c.args.item.now c.args.self.now.core.entries ≡ Some c.in-Some.cover = search rules in
    placing r c.args.self.now c.args.origin c.args.item.now (Folded c.in-Some.cover) c.event_of.result c.requires (folds_into r c.args.item.now c.args.self.now.core c.in-Some.cover found) c.event_of.ensures

pub keep-requires-clause-step : goal.keep-requires-clause-step
keep-requires-clause-step g c =
    let r = g.F.Folding.rules c.args.self.now.rules in
    let none : least_cover r c.args.item.now c.args.self.now.core.entries ≡ None = search rules in
    placing r c.args.self.now c.args.origin c.args.item.now (Kept c.len.result) c.event_of-2.result c.requires (keeps_as r c.args.item.now c.args.self.now.core c.len.result none (c.len.ensures ∙ ap (λ (s : State _ _). length s.core.entries) c.self.view_is)) c.event_of-2.ensures
