use Rattle.std.proofs.Common.{◌≡◌, ◌<◌, false, get_or, length, ap, subst, sym, ◌∙◌, arith}
use Rattle.std.specs.Prelude.{All}
use Rattle.std.proofs.lemmas.List.{take_all}
use Rattle.npa_sig.specs.Nameless.{hands_names}
use Rattle.npa_sig.proofs.LeastTerms.{passed_more}
use Rattle.npa_sig.proofs.nameless.first_handing.Goals as goal

pub loop-num-preserved : goal.loop-num-preserved
loop-num-preserved c =
    let ops = c.args.sig.now.ops in
    let decl = c.decl-item.result in
    let same : c.as_slice-decl-items.result.now ≡ ops = c.as_slice-decl-items.ensures ∙ c.ops.ensures in
    let small : c.loop-num.num < length ops = omega (arith, c.loop-num-test.true, ap length same) in
    let is : decl ≡ get_or ops c.loop-num.num decl = c.decl-item.is ∙ ap (λ xs. get_or xs c.loop-num.num decl) same in
    passed_more (hands_names c.args.marks.now) ops c.loop-num.num decl small is (sym c.hands_names.ensures ∙ c.if-hands_names.false) c.loop-num.invariant

pub returns : goal.returns
returns c =
    let ops = c.args.sig.now.ops in
    let same : c.as_slice-decl-items.result.now ≡ ops = c.as_slice-decl-items.ensures ∙ c.ops.ensures in
    subst (All (λ d. hands_names c.args.marks.now d ≡ false)) (take_all c.loop-num.num ops (omega (arith, c.loop-num-test.false, ap length same))) c.loop-num.invariant
