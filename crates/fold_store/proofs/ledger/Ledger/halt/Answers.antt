use Rattle.std.proofs.Common.{rules, ◌≡◌, None, sym, subst}
use Rattle.fold_core.specs.Machine.{Overflowing}
use Rattle.fold_store.specs.Store.{State}
use Rattle.fold_store.proofs.Events.{sound_halt, next_halt}
use Rattle.fold_store.proofs.ledger.Ledger.halt.Goals as goal

pub invariant_of-self : goal.invariant_of-self
invariant_of-self g c =
    let free : c.self.inside.halted ≡ None = search rules in
    let over = subst (λ (w : State _ _). Overflowing (g.F.Folding.rules w.rules) c.args.id c.args.why w.core) (sym c.self.view_is) c.requires in
    sound_halt c.note.new.self.due c.self.invariant free over c.note.ensures.events c.note.ensures.due

pub returns-clause-first : goal.returns-clause-first
returns-clause-first g c = λ given.
    let free : c.self.inside.halted ≡ None = search rules in
    let v : State _ _ = record {
      rules = c.self.inside.rules;
      roots = c.self.inside.roots;
      budget = c.self.inside.budget;
      history = c.self.inside.journal.events;
      core = record { entries = c.self.inside.table; found = c.self.inside.found; halted = c.self.inside.halted; finished = c.self.inside.finished };
    } in
    next_halt g.F.Folding.rules v c.args.self.now c.args.id c.args.why c.note.new.self.events c.self.view_is free c.requires c.note.ensures.events
