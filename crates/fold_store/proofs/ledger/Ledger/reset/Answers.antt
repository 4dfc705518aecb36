use Rattle.std.proofs.Common.{◌++◌, ◌∷◌, [], ap, ◌∙◌}
use Rattle.fold_core.specs.declared.event.Event.TheVariants.{Reset}
use Rattle.fold_store.specs.Journal.{Written}
use Rattle.fold_store.specs.Store.{State}
use Rattle.fold_store.proofs.Events.{sound_reset, next_reset}
use Rattle.fold_store.proofs.ledger.Ledger.reset.Goals as goal

pub invariant_of-self-2 : goal.invariant_of-self-2
invariant_of-self-2 g c =
    let promised = c.in_ok-promise.ensures.ok in
    let same = ap (λ (j : Written). j.events) promised in
    sound_reset c.promise.new.self.due c.taken.result c.note.new.self.due c.self.invariant c.put_back.ensures c.taken.ensures
    (c.note.ensures.events ∙ ap (λ h. h ++ Reset ∷ []) same) (ap (λ (j : Written). j.due) promised) c.note.ensures.due

pub returns-clause-ok : goal.returns-clause-ok
returns-clause-ok g c =
    let v : State _ _ = record {
      rules = c.self.inside.rules;
      roots = c.self.inside.roots;
      budget = c.self.inside.budget;
      history = c.self.inside.journal.events;
      core = record { entries = c.self.inside.table; found = c.self.inside.found; halted = c.self.inside.halted; finished = c.self.inside.finished };
    } in
    let same = ap (λ (j : Written). j.events) c.in_ok-promise.ensures.ok in
    next_reset g.F.Folding.rules v c.args.self.now c.put_back.new.self c.note.new.self.events c.self.view_is c.put_back.ensures (c.note.ensures.events ∙ ap (λ h. h ++ Reset ∷ []) same)
