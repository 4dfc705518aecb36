use Rattle.std.proofs.Common.{rules, ◌<◌, length, ap, sym, ◌∙◌, subst}
use Rattle.std.specs.Result.{IsErrOf}
use Rattle.fold_core.specs.Machine.{Stands, After}
use Rattle.fold_store.specs.declared.error.StoreFail.TheVariants.{Full}
use Rattle.fold_store.specs.Store.{State}
use Rattle.fold_store.proofs.Numbers.{stands_get}
use Rattle.fold_store.proofs.Opening.{next_root}
use Rattle.fold_store.proofs.ledger.Ledger.place_root.Goals as goal

pub place-requires : goal.place-requires
place-requires g c =
    let roots = c.as_slice.ensures ∙ ap (λ (s : State _ _). s.roots) c.self.view_is in
    let within : c.args.number < length c.as_slice.result.now = rw roots c.requires.within in
    let there = subst (λ w. Stands w c.args.number c.index-as_slice-number.result) roots (stands_get c.as_slice.result.now c.args.number c.index-as_slice-number.result _ within c.index-as_slice-number.is) in
    next_root c.requires.alone (subst (λ x. Stands c.args.self.now.roots c.args.number x) (sym c.in_ok-item.ensures) there)

pub returns-in_err-place-clause-full : goal.returns-in_err-place-clause-full
returns-in_err-place-clause-full g c = λ e.
    let roots = c.as_slice.ensures ∙ ap (λ (s : State _ _). s.roots) c.self.view_is in
    let within : c.args.number < length c.as_slice.result.now = rw roots c.requires.within in
    let there = subst (λ w. Stands w c.args.number c.index-as_slice-number.result) roots (stands_get c.as_slice.result.now c.args.number c.index-as_slice-number.result _ within c.index-as_slice-number.is) in
    let full : IsErrOf c.place.result Full = search rules in
    record {
      number = c.args.number;
      item = c.in_ok-item.item;
      stands = subst (λ x. Stands c.args.self.now.roots c.args.number x) (sym c.in_ok-item.ensures) there;
      history = c.args.self.now.history;
      core = c.args.self.now.core;
      alone = c.requires.alone;
      after = subst (λ (w : State _ _). After (g.F.Folding.rules w.rules) w.roots w.budget w.history w.core) c.self.view_is c.self.invariant.after;
      no_room = c.place.ensures.full full;
    }
