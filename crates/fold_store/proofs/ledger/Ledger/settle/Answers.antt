use Rattle.std.proofs.Common.{subst}
use Rattle.fold_store.specs.Hints.{HintSays}
use Rattle.fold_store.specs.Store.{folded}
use Rattle.fold_store.proofs.Finishing.{settle_by}
use Rattle.fold_store.proofs.ledger.Ledger.settle.Goals as goal

pub returns-in-Some-clause-ok : goal.returns-in-Some-clause-ok
returns-in-Some-clause-ok g c = folded c.in-Some.into (rw c.in-Some.is at c.in_ok-into.ensures)

pub returns-clause-ok : goal.returns-clause-ok
returns-clause-ok g c =
    let r = g.F.Folding.rules c.args.self.now.rules in
    let none = subst (HintSays r c.args.item.now c.args.hint c.args.self.now.core.entries) c.in_default.is c.in_ok-into.ensures in
    settle_by r c.args.parent c.args.child c.args.item.now c.args.hint c.args.self.now c.place.new.self c.place.result none c.place.ensures.ok c.place.ensures.placed
