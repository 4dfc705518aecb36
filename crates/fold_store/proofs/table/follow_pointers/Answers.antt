use Rattle.std.proofs.Common.{◌≡◌, true, ap, sym, ◌∙◌}
use Rattle.fold_core.specs.declared.event.Status.TheVariants.{Retired}
use Rattle.fold_core.specs.Machine.{is_live}
use Rattle.fold_core.specs.Facts.{ends}
use Rattle.fold_store.proofs.Numbers.{stands_get}
use Rattle.fold_store.proofs.Walks.{leads_on, live_unless}
use Rattle.fold_store.proofs.table.follow_pointers.Goals as goal

pub loop-to-preserved : goal.loop-to-preserved
loop-to-preserved g c =
    let s = stands_get c.args.entries.now c.loop-to.at c.index-entries-at.result _ c.loop-to.invariant.within c.index-entries-at.is in
    let is : c.index-entries-at.result.status ≡ Retired c.in-Retired.to c.in-Retired.tick c.in-Retired.taken = sym c.status.ensures ∙ c.in-Retired.is in
    record {
      within = c.requires.forward.within c.loop-to.at c.index-entries-at.result c.in-Retired.to c.in-Retired.tick c.in-Retired.taken s is;
      on = leads_on c.args.entries.now c.args.from c.loop-to.at c.in-Retired.to c.in-Retired.tick c.in-Retired.taken c.index-entries-at.result s is c.loop-to.invariant.on;
    }

pub returns : goal.returns
returns g c =
    let s = stands_get c.args.entries.now c.loop-to.at c.index-entries-at.result _ c.loop-to.invariant.within c.index-entries-at.is in
    let live : is_live c.index-entries-at.result.status ≡ true = ap is_live (sym c.status.ensures) ∙ live_unless c.status.result c.in_default.not-Retired in
    c.loop-to.invariant.on c.loop-to.at (ends c.loop-to.at c.index-entries-at.result s live)
