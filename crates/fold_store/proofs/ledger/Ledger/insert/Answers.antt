use Rattle.fold_store.specs.Store.{IsFor}
use Rattle.fold_store.proofs.Events.{child_of}
use Rattle.fold_store.proofs.ledger.Ledger.insert.Goals as goal

pub place-requires : goal.place-requires
place-requires g c =
    let f : IsFor c.args.self.now c.args.id c.args.work.now = c.is_for.ensures.0 c.if-not-is_for.false in
    child_of g.F.Folding.rules c.args.self.now c.args.id c.args.child c.args.work.now c.child.result.now f c.child.ensures.expands c.child.ensures.stands
