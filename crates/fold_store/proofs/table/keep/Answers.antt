use Rattle.std.proofs.Common.{length, ◌∙◌}
use Rattle.fold_store.proofs.Indexing.{splits_by, keeps_by, on_ok}
use Rattle.fold_store.proofs.table.keep.Goals as goal

pub keep_split-requires-clause-live : goal.keep_split-requires-clause-live
keep_split-requires-clause-live g c =
    splits_by (g.F.Folding.rules c.args.rules.now) c.args.item c.args.table.now c.as_slice.result.now c.live.result.now _ _ (c.as_slice.ensures.value ∙ c.table.view_is) c.live.ensures
    c.in_ok-split.ensures.covered c.in_ok-split.ensures.others

pub returns-clause-ok : goal.returns-clause-ok
returns-clause-ok g c =
    let is = keeps_by (g.F.Folding.rules c.args.rules.now) c.args.item c.args.table.now c.as_slice.result.now c.live.result.now c.in_ok-split.split.covered.items (length c.args.table.now) c.args.tick c.args.origin
    (c.as_slice.ensures.value ∙ c.table.view_is) c.live.ensures c.in_ok-split.ensures.covered in
    on_ok c.keep_split.result (λ e. e ∙ is) c.keep_split.ensures.ok
