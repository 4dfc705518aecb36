use Rattle.npa_model.proofs.Comparing.{denied}
use Rattle.npa_prune.proofs.Parting.{part_itself, part_below, part_in}
use Rattle.npa_prune.proofs.Searching.{told_true, told_as}
use Rattle.npa_prune.proofs.early.+parts.Goals as goal

pub has_part-returns-then-same : goal.has_part-returns-then-same
has_part-returns-then-same t c = told_true (part_itself c.args.t.now c.args.u.now (c.same.ensures.0 c.if-same.true))

pub has_part-returns-in-App : goal.has_part-returns-in-App
has_part-returns-in-App t c =
    told_as c.have_part.result c.have_part.ensures
    (part_below c.args.t.now c.args.u.now c.in-App.field-0 c.in-App.args c.as_slice.result.now c.in-App.is c.as_slice.ensures)
    (part_in c.args.t.now c.args.u.now c.in-App.field-0 c.in-App.args c.as_slice.result.now c.in-App.is c.as_slice.ensures (denied c.same.result c.same.ensures c.if-same.false))
