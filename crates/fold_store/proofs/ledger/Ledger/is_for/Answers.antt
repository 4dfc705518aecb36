use Rattle.std.proofs.Common.{rules, ◌≡◌, true, Some, slice_get, ap}
use Rattle.fold_core.specs.Machine.{is_taken}
use Rattle.fold_store.specs.Store.{State}
use Rattle.fold_store.proofs.Events.{is_for_last}
use Rattle.fold_store.proofs.ledger.Ledger.is_for.Goals as goal

pub returns : goal.returns
returns g c =
    let here : slice_get c.args.self.now.core.entries c.args.id ≡ Some c.in-Some.kept.now = search rules in
    let taken : is_taken c.in-Some.kept.now.status ≡ true = search rules in
    let item : c.in-Some.kept.now.item ≡ c.args.work.now.item = search rules in
    is_for_last c.args.self.now c.args.id c.args.work.now c.in-Some.kept.now c.same.result c.self.inside.rules c.rules.result.now (record { is = here }) taken item
    (ap (λ (s : State _ _). s.rules) c.self.view_is) c.rules.ensures c.same.ensures
