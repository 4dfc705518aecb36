use Rattle.std.proofs.Common.{refl}
use Rattle.fold_store.proofs.Indexing.{waiting_within, indexed_take}
use Rattle.fold_store.proofs.Joining.{joined_take}
use Rattle.fold_store.proofs.Retiring.{logged_take}
use Rattle.fold_store.proofs.table.Table.take.Goals as goal

pub take_at-requires : goal.take_at-requires
take_at-requires g c = waiting_within c.self.inside.entries.items c.args.number (rw c.self.view_is c.requires)

pub invariant_of-self : goal.invariant_of-self
invariant_of-self g c = (
  indexed_take c.self.inside.entries.items c.take_at.new.entries.items c.self.inside.live.items c.self.inside.first c.self.inside.taken _ c.args.number c.self.invariant.0 (rw c.self.view_is c.requires) refl c.take_at.ensures,
  joined_take c.args.number c.self.invariant.1 (rw c.self.view_is c.requires) c.take_at.ensures,
  logged_take c.args.number c.self.invariant.2 (rw c.self.view_is c.requires) c.take_at.ensures,
)
