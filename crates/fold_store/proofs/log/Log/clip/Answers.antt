use Rattle.std.proofs.Common.{sym, subst}
use Rattle.fold_store.specs.Log.{Ascends}
use Rattle.fold_store.proofs.Logging.{ascends_clip}
use Rattle.fold_store.proofs.log.Log.clip.Goals as goal

pub invariant_of-self : goal.invariant_of-self
invariant_of-self c = subst Ascends (sym c.clip_from.ensures) (ascends_clip c.args.bound c.self.inside.marks.items c.self.invariant)
