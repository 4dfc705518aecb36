use Rattle.std.proofs.Common.{◌≡◌, true, false, refl, sym, ◌∙◌, arith}
use Rattle.npa_rewrite.proofs.Occurrences.{occurs_argument, occurs_later, occurs_nowhere}
use Rattle.npa_rewrite.proofs.cancelling.+occurs.Goals as goal

pub returns-then-occurs : goal.returns-then-occurs
returns-then-occurs t c =
    let here = c.occurs.ensures.0 c.if-occurs.true in
    (λ _. occurs_argument c.args.v c.args.t.now c.in-App.field-0 c.in-App.args _ c.loop-arg.arg-index c.arg-item.result c.in-App.is c.as_slice-arg-items.ensures c.loop-arg-test.true c.arg-item.is here, λ _. refl)

pub loop-arg-preserved : goal.loop-arg-preserved
loop-arg-preserved t c =
    occurs_later c.args.v _ c.loop-arg.arg-index c.arg-item.result c.loop-arg-test.true c.arg-item.is c.loop-arg.invariant
    (λ here. let both : false ≡ true = sym c.if-occurs.false ∙ c.occurs.ensures.1 here in cc)

pub returns-after-loop-arg : goal.returns-after-loop-arg
returns-after-loop-arg t c =
    (λ e. cc, λ here. absurd (occurs_nowhere c.args.v c.args.t.now c.in-App.field-0 c.in-App.args _ c.loop-arg.arg-index c.in-App.is c.as_slice-arg-items.ensures (omega arith) c.loop-arg.invariant here))
