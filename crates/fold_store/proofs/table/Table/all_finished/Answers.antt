use Rattle.std.proofs.Common.{ap, ◌∙◌}
use Rattle.fold_store.specs.Table.{live_numbers}
use Rattle.fold_store.proofs.Walks.{all_finished_by}
use Rattle.fold_store.proofs.table.Table.all_finished.Goals as goal

pub returns : goal.returns
returns g c =
    all_finished_by c.args.self.now c.as_slice.result.now c.self.inside.live.items c.as_slice-2.result.now c.none_unfinished.result (c.as_slice.ensures.value ∙ c.self.view_is) c.as_slice-2.ensures.value (c.self.invariant.0.live_is ∙ ap live_numbers c.self.view_is) c.none_unfinished.ensures
