use Rattle.std.proofs.Common.{sym, subst}
use Rattle.fold_core.specs.declared.error.Large.{Large}
use Rattle.fold_core.specs.Machine.{Overflowing}
use Rattle.fold_pool.proofs.Turns.{taken_left, made_for, overflows}
use Rattle.fold_pool.proofs.turn.expand.Goals as goal

pub returns-in-Err : goal.returns-in-Err
returns-in-Err g c = taken_left g.F.Folding.rules c.args.id c.args.store.now c.requires.taken

pub work_off-requires : goal.work_off-requires
work_off-requires g c =
    made_for c.args.store.now c.args.id c.in-Ok-make.work c.args.rules.now c.in-Ok.item c.requires.taken c.in-Ok.ensures c.requires.same c.in-Ok-make.ensures.0 c.in-Ok-make.ensures.1

pub halt-requires : goal.halt-requires
halt-requires g c =
    let large = rw c.in-Err-Large.field-0-is at c.in-Err-Large.ensures in
    subst (λ (w : Large). Overflowing (g.F.Folding.rules c.args.store.now.rules) c.args.id w c.args.store.now.core) (sym c.in-Err-Large.why-is)
    (overflows g.F.Folding.rules c.args.store.now c.args.id c.args.rules.now c.in-Ok.item c.in-Err-Large.why c.requires.taken c.in-Ok.ensures c.requires.same large)

pub returns : goal.returns
returns g c = taken_left g.F.Folding.rules c.args.id c.args.store.now c.requires.taken
