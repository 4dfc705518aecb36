use Rattle.fold_store.proofs.Indexing.{indexed_put_back}
use Rattle.fold_store.proofs.Joining.{joined_put_back}
use Rattle.fold_store.proofs.Retiring.{logged_put_back}
use Rattle.fold_store.proofs.table.Table.put_back.Goals as goal

pub invariant_of-self : goal.invariant_of-self
invariant_of-self g c =
    rw c.put_back_all.ensures (
      indexed_put_back c.self.inside.entries.items c.self.inside.live.items c.self.inside.first c.self.inside.taken c.self.invariant.0,
      joined_put_back c.self.invariant.1,
      logged_put_back c.self.invariant.2,
    )
