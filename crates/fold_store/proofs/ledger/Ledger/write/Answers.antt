use Rattle.std.proofs.Common.{◌++◌, ◌∷◌, [], ap, sym, ◌∙◌, subst}
use Rattle.fold_core.specs.Machine.{Step}
use Rattle.fold_store.specs.Journal.{Written}
use Rattle.fold_store.specs.Store.{State}
use Rattle.fold_store.proofs.Events.{sound_same}
use Rattle.fold_store.proofs.ledger.Ledger.write.Goals as goal

pub invariant_of-self-2 : goal.invariant_of-self-2
invariant_of-self-2 g c =
    let step = subst (λ (w : State _ _). Step (g.F.Folding.rules w.rules) w.roots w.budget w.history w.core c.args.event w.core) (sym c.self.view_is) c.requires in
    let promised = c.in_ok-promise.ensures.ok in
    let same = ap (λ (j : Written). j.events) promised in
    sound_same c.promise.new.self.due c.note.new.self.due c.self.invariant step
    (c.note.ensures.events ∙ ap (λ h. h ++ c.args.event ∷ []) same) (ap (λ (j : Written). j.due) promised) c.note.ensures.due
