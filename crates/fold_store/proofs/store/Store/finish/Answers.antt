use Rattle.fold_store.proofs.Opening.{opens_finish}
use Rattle.fold_store.proofs.store.Store.finish.Goals as goal

pub invariant_of-self : goal.invariant_of-self
invariant_of-self g c = opens_finish (g.F.Folding.rules c.self.inside.ledger.rules) g.F.Folding.rules c.args.id c.args.work.now.children c.args.hints.now c.self.inside.ledger c.finish.new.self c.finish.result c.finish.ensures.ok c.finish.ensures.kept c.self.invariant
