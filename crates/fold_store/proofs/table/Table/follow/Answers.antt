use Rattle.std.proofs.Common.{◌<◌, length, sym, subst}
use Rattle.fold_core.specs.Facts.{Leads}
use Rattle.fold_store.proofs.Joining.{leads_by}
use Rattle.fold_store.proofs.table.Table.follow.Goals as goal

pub returns : goal.returns
returns g c =
    let within = subst (λ w. c.args.from < length w) (sym c.self.view_is) c.requires.within in
    subst (λ w. Leads w c.args.from c.follow_pointers.result) c.self.view_is
    (leads_by c.args.from c.last.result c.follow_pointers.result c.self.invariant.1 c.as_slice.ensures.value c.last.ensures.same within c.last.ensures.within c.follow_pointers.ensures)
