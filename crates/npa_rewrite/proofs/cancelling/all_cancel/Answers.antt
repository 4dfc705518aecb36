use Rattle.std.proofs.Common.{◌≡◌, true, false, refl, sym, ◌∙◌, subst, arith}
use Rattle.std.specs.List.{All}
use Rattle.std.proofs.lemmas.List.{take_all}
use Rattle.std.proofs.lemmas.List.Elements.{All-more, All-get_or}
use Rattle.npa_rewrite.specs.Rewriting.{AllCancel, IsCancelling}
use Rattle.npa_rewrite.proofs.cancelling.all_cancel.Goals as goal

pub loop-equation-preserved : goal.loop-equation-preserved
loop-equation-preserved c =
    let o = c.args.th.now.sig.sorts in
    let e = c.equation-item.result in
    let says : IsCancelling c.sorts-sorts.result.now e = c.is_cancelling.ensures.0 c.if-not-is_cancelling.false in
    let here : IsCancelling o e = subst (λ p. IsCancelling p e) c.sorts-sorts.ensures says in
    All-more (IsCancelling o) c.as_slice-equation-items.result.now c.loop-equation.equation-index e c.loop-equation-test.true c.loop-equation.invariant (subst (IsCancelling o) c.equation-item.is here)

pub returns-then-not-is_cancelling : goal.returns-then-not-is_cancelling
returns-then-not-is_cancelling c =
    let o = c.args.th.now.sig.sorts in
    let e = c.equation-item.result in
    let at : AllCancel c.args.th.now → IsCancelling c.sorts-sorts.result.now e = λ all.
    let listed : All (IsCancelling o) c.as_slice-equation-items.result.now = subst (All (IsCancelling o)) (sym c.as_slice-equation-items.ensures) all in
    subst (λ p. IsCancelling p e) (sym c.sorts-sorts.ensures)
    (subst (IsCancelling o) (sym c.equation-item.is) (All-get_or (IsCancelling o) c.as_slice-equation-items.result.now c.loop-equation.equation-index e c.loop-equation-test.true listed)) in
    (λ f. cc, λ all. let both : false ≡ true = sym c.if-not-is_cancelling.true ∙ c.is_cancelling.ensures.1 (at all) in cc)

pub returns : goal.returns
returns c =
    let o = c.args.th.now.sig.sorts in
    let items = c.as_slice-equation-items.result.now in
    let whole = take_all c.loop-equation.equation-index items (omega arith) ∙ c.as_slice-equation-items.ensures in
    (λ _. subst (All (IsCancelling o)) whole c.loop-equation.invariant, λ _. refl)
