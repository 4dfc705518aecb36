use Rattle.std.proofs.Common.{arith, ◌≤◌, length}
use Rattle.fold_store.proofs.Clipping.{down_to}
use Rattle.fold_store.proofs.ledger.bring_down.Goals as goal

pub returns-else-start-len-clause-table : goal.returns-else-start-len-clause-table
returns-else-start-len-clause-table g c =
    let few : length c.args.journal.now.events ≤ c.args.start = (let n = c.len.ensures in omega arith) in
    down_to c.args.start (length c.args.journal.now.events) c.args.table.now c.requires few
