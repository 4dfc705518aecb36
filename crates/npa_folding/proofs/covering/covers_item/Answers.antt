use Rattle.std.proofs.Common.{◌≡◌}
use Rattle.npa_folding.proofs.Lawfulness.{none_covered, fit_told, unfit_told}
use Rattle.npa_folding.proofs.covering.covers_item.Goals as goal

pub returns-then-not-branch : goal.returns-then-not-branch
returns-then-not-branch c =
    let order : c.sorts.result.now ≡ c.args.ready.now.sig.sorts = cc in
    none_covered c.args.ready.now c.sorts.result.now c.args.t.now c.args.s.now c.in_ok-covers.field-0 order c.in_ok-covers.ensures.test c.if-not-branch.true

pub returns-then-branch : goal.returns-then-branch
returns-then-branch c =
    let order : c.sorts.result.now ≡ c.args.ready.now.sig.sorts = cc in
    let fit = rw c.protocol-protocol.ensures at c.in_ok-are_fit.ensures in
    fit_told c.args.ready.now c.sorts.result.now c.args.t.now c.args.s.now c.in_ok-covers.field-0 c.in_ok-are_fit.field-0 order c.in_ok-covers.ensures.test c.if-not-branch.false fit c.if-branch.true

pub returns : goal.returns
returns c =
    let fit = rw c.protocol-protocol.ensures at c.in_ok-are_fit.ensures in
    unfit_told c.args.ready.now c.args.t.now c.args.s.now c.same.result c.in_ok-are_fit.field-0 fit c.if-branch.false c.same.ensures
