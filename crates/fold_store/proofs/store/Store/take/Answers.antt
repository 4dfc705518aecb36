use Rattle.fold_store.proofs.Opening.{opens_takes}
use Rattle.fold_store.proofs.store.Store.take.Goals as goal

pub invariant_of-self : goal.invariant_of-self
invariant_of-self g c = opens_takes (g.F.Folding.rules c.self.inside.ledger.rules) c.self.inside.ledger c.take.result c.take.new.self c.take.ensures c.self.invariant
