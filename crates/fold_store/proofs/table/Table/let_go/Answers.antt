use Rattle.std.proofs.Common.{List, refl, sym, subst}
use Rattle.fold_core.specs.Machine.{Entry}
use Rattle.fold_core.proofs.Places.{stands_within}
use Rattle.fold_store.specs.Table.{TakenEntry}
use Rattle.fold_store.proofs.Indexing.{taken_some, indexed_let_go}
use Rattle.fold_store.proofs.Joining.{joined_let_go}
use Rattle.fold_store.proofs.Retiring.{logged_let_go}
use Rattle.fold_store.proofs.table.Table.let_go.Goals as goal

pub let_go_at-requires : goal.let_go_at-requires
let_go_at-requires g c =
    let t = subst (λ (w : List (Entry _)). TakenEntry c.args.number w) (sym c.self.view_is) c.requires in
    stands_within t.stands

pub overflow_sub-self : goal.overflow_sub-self
overflow_sub-self g c =
    let t = subst (λ (w : List (Entry _)). TakenEntry c.args.number w) (sym c.self.view_is) c.requires in
    taken_some c.self.inside.entries.items c.self.inside.live.items c.self.inside.first c.self.inside.taken c.args.number c.self.invariant.0 t

pub invariant_of-self : goal.invariant_of-self
invariant_of-self g c =
    let t = subst (λ (w : List (Entry _)). TakenEntry c.args.number w) (sym c.self.view_is) c.requires in (
      indexed_let_go c.self.inside.entries.items c.let_go_at.new.entries.items c.self.inside.live.items c.self.inside.first c.self.inside.taken _ c.args.number c.self.invariant.0 t refl c.let_go_at.ensures,
      joined_let_go c.args.number c.self.invariant.1 t c.let_go_at.ensures,
      logged_let_go c.args.number c.self.invariant.2 t c.let_go_at.ensures,
    )
