use Rattle.std.proofs.Common.{rules, arith, ◌<◌, ◌++◌, ◌∷◌, [], ap, sym, ◌∙◌, subst}
use Rattle.fold_core.specs.declared.event.Event.TheVariants.{Finish}
use Rattle.fold_core.proofs.Stepping.{sound_after}
use Rattle.fold_store.specs.Store.{State, Closing}
use Rattle.fold_store.proofs.Finishing.{taken_room, taken_clip, sound_close, closed_is}
use Rattle.fold_store.proofs.ledger.Ledger.close.Goals as goal

pub bring_down-requires : goal.bring_down-requires
bring_down-requires g c =
    let ticks = (sound_after (g.met.F.Folding.lawful c.self.inside.rules) c.self.invariant.after).pointers in
    record { within = λ n e to tick taken s q. (ticks n e to tick taken s q).0 }

pub let_go-requires : goal.let_go-requires
let_go-requires g c =
    let closing = subst (λ (w : State _ _). Closing (g.F.Folding.rules w.rules) w c.args.start c.args.id c.args.places) (sym c.self.view_is) c.requires in
    taken_clip c.args.start c.args.id c.self.inside.table c.bring_down.new.table c.bring_down.ensures.table closing.taken

pub overflow_add-self : goal.overflow_add-self
overflow_add-self g c =
    let closing = subst (λ (w : State _ _). Closing (g.F.Folding.rules w.rules) w c.args.start c.args.id c.args.places) (sym c.self.view_is) c.requires in
    let below : c.self.inside.finished < c.self.inside.budget = (taken_room c.self.invariant closing.taken).1 in
    search rules

pub note-requires : goal.note-requires
note-requires g c =
    let closing = subst (λ (w : State _ _). Closing (g.F.Folding.rules w.rules) w c.args.start c.args.id c.args.places) (sym c.self.view_is) c.requires in
    let room = (taken_room c.self.invariant closing.taken).0 in
    let same = c.bring_down.ensures.due in
    omega arith

pub invariant_of-self : goal.invariant_of-self
invariant_of-self g c =
    let closing = subst (λ (w : State _ _). Closing (g.F.Folding.rules w.rules) w c.args.start c.args.id c.args.places) (sym c.self.view_is) c.requires in
    sound_close c.note.new.self.due c.self.invariant closing c.bring_down.ensures.table c.let_go.ensures
    (c.note.ensures.events ∙ ap (λ h. h ++ Finish c.args.id c.args.places ∷ []) c.bring_down.ensures.events) (c.note.ensures.due ∙ c.bring_down.ensures.due)

pub returns : goal.returns
returns g c = λ e s. closed_is c.args.start c.args.id c.args.places e c.self.view_is c.bring_down.ensures.table c.let_go.ensures
    (c.note.ensures.events ∙ ap (λ h. h ++ Finish c.args.id c.args.places ∷ []) c.bring_down.ensures.events) s
