use Rattle.std.proofs.Common.{◌≡◌, ap, ◌∙◌}
use Rattle.fold_core.specs.Machine.{least_cover}
use Rattle.fold_store.specs.Table.{first_passing, covers_at}
use Rattle.fold_store.proofs.Indexing.{least_cover_is}
use Rattle.fold_store.proofs.table.least_cover.Goals as goal

pub returns : goal.returns
returns g c =
    let r = g.F.Folding.rules c.args.rules.now in
    let x = c.args.item.now in
    let is : first_passing (covers_at r x c.as_slice.result.now) c.live.result.now ≡ least_cover r x c.args.table.now =
    ap (λ w. first_passing (covers_at r x w) c.live.result.now) (c.as_slice.ensures.value ∙ c.table.view_is) ∙ ap (first_passing (covers_at r x c.args.table.now)) c.live.ensures
    ∙ least_cover_is r x c.args.table.now in
    rw (← is) c.first_cover.ensures
