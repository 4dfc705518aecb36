use Rattle.fold_pool.proofs.Turns.{expanded_by, left_by}
use Rattle.fold_pool.proofs.turn.work_off.Goals as goal

pub returns-clause-ok : goal.returns-clause-ok
returns-clause-ok g c =
    expanded_by g.F.Folding.rules c.args.store.now c.insert_all.new.store c.finish.new.store c.args.id c.args.work.now c.in-Ok.entries c.finish.result c.requires c.children.ensures.expands c.in-Ok.ensures.ok c.finish.ensures.ok

pub returns-clause-left : goal.returns-clause-left
returns-clause-left g c =
    left_by g.F.Folding.rules c.args.store.now c.insert_all.new.store c.finish.new.store c.args.id c.args.work.now.children c.in-Ok.entries c.finish.result c.in-Ok.ensures.ok c.finish.ensures.left
