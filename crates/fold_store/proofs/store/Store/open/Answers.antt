use Rattle.std.proofs.Common.{arith, ◌≡◌, ◌+◌, length, ap, refl, ◌∙◌}
use Rattle.fold_store.specs.Store.{State}
use Rattle.fold_store.proofs.Opening.{opening_next, opening_end, opens_opened}
use Rattle.fold_store.proofs.store.Store.open.Goals as goal

pub loop-number-preserved : goal.loop-number-preserved
loop-number-preserved g c = opening_next (c.loop-number.number + 1) c.loop-number.invariant c.in_ok-place_root.ensures.ok refl

pub invariant_of-result : goal.invariant_of-result
invariant_of-result g c =
    let made = c.in_ok-ledger.ensures in
    let roots = ap (λ (s : State _ _). s.roots) made in
    let end = c.roots-number-end.ensures ∙ ap length roots in
    let at : c.loop-number.number ≡ length c.args.roots = (let h = c.loop-number-test.false in let k = c.loop-number.auto.number-end in omega arith) in
    opens_opened (opening_end c.args.rules c.args.roots c.args.budget c.loop-number.invariant (ap (λ (s : State _ _). s.rules) made) roots (ap (λ (s : State _ _). s.budget) made) at)
