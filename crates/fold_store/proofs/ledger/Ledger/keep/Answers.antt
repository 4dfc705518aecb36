use Rattle.std.proofs.Common.{◌<◌, ◌++◌, ◌∷◌, [], length, sym, subst, ap, ◌∙◌}
use Rattle.fold_core.specs.Machine.{Step, kept}
use Rattle.fold_store.specs.Journal.{Written}
use Rattle.fold_store.specs.Table.{most_entries}
use Rattle.fold_store.specs.Store.{State}
use Rattle.fold_store.proofs.Events.{kept_is, sound_kept}
use Rattle.fold_store.proofs.ledger.Ledger.keep.Goals as goal

pub invariant_of-self-2 : goal.invariant_of-self-2
invariant_of-self-2 g c =
    let r = g.F.Folding.rules c.self.inside.rules in
    let step = subst (λ (w : State _ _). Step (g.F.Folding.rules w.rules) w.roots w.budget w.history w.core c.args.event (kept (g.F.Folding.rules w.rules) (length w.history) c.args.item.now c.args.origin w.core)) (sym c.self.view_is) c.requires.step in
    let many = subst (λ (w : State _ _). length w.core.entries < most_entries) (sym c.self.view_is) c.requires.room in
    let promised = c.in_ok-promise.ensures.ok in
    let same = ap (λ (j : Written). j.events) promised in
    let made = kept_is r c.len-tick.result (length c.self.inside.journal.events) c.args.item.now c.in_ok-copy.copy c.args.origin
    (record { entries = c.self.inside.table; found = c.self.inside.found; halted = c.self.inside.halted; finished = c.self.inside.finished })
    c.keep.new.table c.first_found-self-inside.result c.len-number.result c.initial.result c.len-tick.ensures c.in_ok-copy.ensures c.in-Ok.ensures.ok c.first_found-self-inside.ensures c.initial.ensures c.len-number.ensures in
    sound_kept c.promise.new.self.due c.note.new.self.due c.args.item.now c.args.origin c.self.invariant step many made
    (c.note.ensures.events ∙ ap (λ h. h ++ c.args.event ∷ []) same) (ap (λ (j : Written). j.due) promised) c.note.ensures.due
