use Rattle.fold_store.proofs.Indexing.{indexed_empty}
use Rattle.fold_store.proofs.Joining.{joined_empty}
use Rattle.fold_store.proofs.Retiring.{logged_empty}
use Rattle.fold_store.proofs.table.Table.new.Goals as goal

pub invariant_of-result : goal.invariant_of-result
invariant_of-result g c = (indexed_empty c.new.ensures.items c.new-4.ensures.items, joined_empty c.new.ensures.items c.new-2.ensures, logged_empty c.new.ensures.items)
