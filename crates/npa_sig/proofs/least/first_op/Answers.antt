use Rattle.std.proofs.Common.{◌≡◌, ◌<◌, false, get_or, length, ap, subst, sym, ◌∙◌, arith}
use Rattle.std.specs.Prelude.{All}
use Rattle.std.proofs.lemmas.List.{take_all}
use Rattle.npa_sig.specs.Sizes.{is_least_op}
use Rattle.npa_sig.proofs.LeastTerms.{passed_more}
use Rattle.npa_sig.proofs.least.first_op.Goals as goal

pub loop-num-preserved : goal.loop-num-preserved
loop-num-preserved c =
    let ops = c.args.sig.now.ops in
    let decl = c.decl-item.result in
    let same : c.as_slice-decl-items.result.now ≡ ops = c.as_slice-decl-items.ensures ∙ c.ops.ensures in
    let small : c.loop-num.num < length ops = omega (arith, c.loop-num-test.true, ap length same) in
    let is : decl ≡ get_or ops c.loop-num.num decl = c.decl-item.is ∙ ap (λ xs. get_or xs c.loop-num.num decl) same in
    let fails : is_least_op c.args.sig.now.sorts c.args.sizes.now c.args.sort decl ≡ false =
    sym (c.is_least_op.ensures ∙ ap (λ o. is_least_op o c.args.sizes.now c.args.sort decl) c.sorts.ensures) ∙ c.if-is_least_op.false in
    passed_more (is_least_op c.args.sig.now.sorts c.args.sizes.now c.args.sort) ops c.loop-num.num decl small is fails c.loop-num.invariant

pub returns : goal.returns
returns c =
    let ops = c.args.sig.now.ops in
    let same : c.as_slice-decl-items.result.now ≡ ops = c.as_slice-decl-items.ensures ∙ c.ops.ensures in
    subst (All (λ d. is_least_op c.args.sig.now.sorts c.args.sizes.now c.args.sort d ≡ false)) (take_all c.loop-num.num ops (omega (arith, c.loop-num-test.false, ap length same))) c.loop-num.invariant
