use Rattle.std.proofs.Common.{Err, ap}
use Rattle.fold_pool.proofs.Turns.{left_for, no_room_of}
use Rattle.fold_pool.proofs.turn.finish.Goals as goal

pub returns-in-Err-Full-clause-left : goal.returns-in-Err-Full-clause-left
returns-in-Err-Full-clause-left g c = left_for c.in-Err-Full.ensures.kept c.requires

pub returns-in-Err-Full-clause-full : goal.returns-in-Err-Full-clause-full
returns-in-Err-Full-clause-full g c = λ e.
    no_room_of g.F.Folding.rules c.args.store.now c.finish.new.self c.args.id c.args.work.now c.in-Err-Full.ensures.kept c.requires c.children.ensures.expands
    (c.in-Err-Full.ensures.full (ap Err c.in-Err-Full.field-0-is))

pub returns-in-Err-NoMemory-clause-left : goal.returns-in-Err-NoMemory-clause-left
returns-in-Err-NoMemory-clause-left g c = left_for c.in-Err-NoMemory.ensures.kept c.requires
