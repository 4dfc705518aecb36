use Rattle.std.proofs.Common.{Err, ap}
use Rattle.fold_pool.proofs.Turns.{is_for_next, no_room_in}
use Rattle.fold_pool.proofs.turn.insert.Goals as goal

pub returns-in-Ok-Kept-clause-is_for : goal.returns-in-Ok-Kept-clause-is_for
returns-in-Ok-Kept-clause-is_for g c = is_for_next g.F.Folding.rules c.in-Ok-Kept.ensures.ok c.requires.is_for

pub returns-in-Ok-Kept-2-clause-is_for : goal.returns-in-Ok-Kept-2-clause-is_for
returns-in-Ok-Kept-2-clause-is_for g c = is_for_next g.F.Folding.rules c.in-Ok-Kept.ensures.ok c.requires.is_for

pub returns-in-Err-Full-clause-full : goal.returns-in-Err-Full-clause-full
returns-in-Err-Full-clause-full g c = λ e.
    no_room_in g.F.Folding.rules c.args.store.now c.insert.new.self c.args.id c.args.child c.args.work.now c.in-Err-Full.ensures.err c.requires.is_for c.children.ensures.expands
    (c.in-Err-Full.ensures.full (ap Err c.in-Err-Full.field-0-is))
