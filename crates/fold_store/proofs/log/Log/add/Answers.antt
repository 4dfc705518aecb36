use Rattle.std.proofs.Common.{refl, sym, subst}
use Rattle.fold_core.specs.Machine.{Stands}
use Rattle.fold_store.specs.Log.{Ascends, Marked}
use Rattle.fold_store.proofs.Logging.{ascends_add, marked_new, marked_old}
use Rattle.fold_store.proofs.log.Log.add.Goals as goal

pub invariant_of-self-2 : goal.invariant_of-self-2
invariant_of-self-2 c =
    subst Ascends (sym c.in_ok-push.ensures.items)
    (ascends_add c.self.inside.marks.items _ c.self.invariant (λ k u s. c.at_least-tick.ensures.last k u (subst (λ w. Stands w k u) c.self.view_is s)))

pub returns-clause-marked : goal.returns-clause-marked
returns-clause-marked c =
    subst (λ w. Marked w c.args.number c.args.tick) (sym c.in_ok-push.ensures.items) (marked_new c.self.inside.marks.items _ c.args.number c.args.tick refl c.at_least-tick.ensures.given)

pub returns-clause-keeps : goal.returns-clause-keeps
returns-clause-keeps c = λ n since m.
    subst (λ w. Marked w n since) (sym c.in_ok-push.ensures.items)
    (marked_old c.self.inside.marks.items _ n since (subst (λ w. Marked w n since) (sym c.self.view_is) m))
