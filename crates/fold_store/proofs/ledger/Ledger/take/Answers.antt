use Rattle.std.proofs.Common.{rules, arith, ◌≡◌, ◌+◌, ◌<◌, Some, None, set, ap, ◌∙◌, subst, List}
use Rattle.fold_core.specs.declared.event.Status.TheVariants.{Taken}
use Rattle.fold_core.specs.Machine.{Entry, Stands, taken_count, least_waiting}
use Rattle.fold_store.specs.Store.{State}
use Rattle.fold_store.proofs.Events.{in_budget, takes_at, sound_take, next_take, spent_is}
use Rattle.fold_store.proofs.ledger.Ledger.take.Goals as goal

pub overflow_sub-left : goal.overflow_sub-left
overflow_sub-left g c = let b = in_budget c.self.invariant in omega arith

pub returns-then-taken-left : goal.returns-then-taken-left
returns-then-taken-left g c =
    let v : State _ _ = record {
      rules = c.self.inside.rules;
      roots = c.self.inside.roots;
      budget = c.self.inside.budget;
      history = c.self.inside.journal.events;
      core = record { entries = c.self.inside.table; found = c.self.inside.found; halted = c.self.inside.halted; finished = c.self.inside.finished };
    } in
    let found : c.self.inside.found ≡ None = search rules in
    let halted : c.self.inside.halted ≡ None = search rules in
    let least : least_waiting c.self.inside.table ≡ Some c.in-Some.number = search rules in
    let count = c.taken.ensures ∙ ap taken_count c.first_waiting.ensures.same in
    let b = in_budget c.self.invariant in
    let all : taken_count c.self.inside.table + c.self.inside.finished ≡ c.self.inside.budget = (let h = c.if-taken-left.true in omega arith) in
    spent_is v c.args.self.now c.first_waiting.new.self c.in-Some.number c.self.view_is c.first_waiting.ensures.same found halted least all

pub invariant_of-self-2 : goal.invariant_of-self-2
invariant_of-self-2 g c =
    let v : State _ _ = record {
      rules = c.self.inside.rules;
      roots = c.self.inside.roots;
      budget = c.self.inside.budget;
      history = c.self.inside.journal.events;
      core = record { entries = c.self.inside.table; found = c.self.inside.found; halted = c.self.inside.halted; finished = c.self.inside.finished };
    } in
    let found : c.self.inside.found ≡ None = search rules in
    let halted : c.self.inside.halted ≡ None = search rules in
    let least : least_waiting c.self.inside.table ≡ Some c.in-Some.number = search rules in
    let count = c.taken.ensures ∙ ap taken_count c.first_waiting.ensures.same in
    let room : taken_count c.self.inside.table + c.self.inside.finished < c.self.inside.budget = (let h = c.if-taken-left.false in omega arith) in
    let turned = subst (λ (w : List (Entry _)). (e : Entry _) → Stands w c.in-Some.number e → c.take.new.self ≡ set w c.in-Some.number (record e { status = Taken })) c.first_waiting.ensures.same c.take.ensures in
    let at = takes_at (g.F.Folding.rules v.rules) v.roots v.budget v.history v.core c.in-Some.number c.take.new.self found halted room least turned in
    sound_take c.note.new.self.due c.self.invariant at c.note.ensures.events c.note.ensures.due

pub returns : goal.returns
returns g c =
    let v : State _ _ = record {
      rules = c.self.inside.rules;
      roots = c.self.inside.roots;
      budget = c.self.inside.budget;
      history = c.self.inside.journal.events;
      core = record { entries = c.self.inside.table; found = c.self.inside.found; halted = c.self.inside.halted; finished = c.self.inside.finished };
    } in
    let found : c.self.inside.found ≡ None = search rules in
    let halted : c.self.inside.halted ≡ None = search rules in
    let least : least_waiting c.self.inside.table ≡ Some c.in-Some.number = search rules in
    let count = c.taken.ensures ∙ ap taken_count c.first_waiting.ensures.same in
    let room : taken_count c.self.inside.table + c.self.inside.finished < c.self.inside.budget = (let h = c.if-taken-left.false in omega arith) in
    let turned = subst (λ (w : List (Entry _)). (e : Entry _) → Stands w c.in-Some.number e → c.take.new.self ≡ set w c.in-Some.number (record e { status = Taken })) c.first_waiting.ensures.same c.take.ensures in
    let at = takes_at (g.F.Folding.rules v.rules) v.roots v.budget v.history v.core c.in-Some.number c.take.new.self found halted room least turned in
    next_take g.F.Folding.rules v c.args.self.now c.in-Some.number c.take.new.self c.note.new.self.events c.self.view_is at c.note.ensures.events
