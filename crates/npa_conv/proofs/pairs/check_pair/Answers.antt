use Rattle.std.proofs.Common.{◌≡◌, ◌≤◌, true, false, refl, sym, ap, ◌∙◌, arith}
use Rattle.std.specs.Prelude.{◌≢◌}
use Rattle.npa_rewrite.specs.Innermost.{normalized}
use Rattle.npa_conv.proofs.Verdicts.{pair_large, pair_joined, pair_apart}
use Rattle.npa_conv.proofs.pairs.check_pair.Goals as goal

pub returns-then-count-gt-MAX_SYMBOLS : goal.returns-then-count-gt-MAX_SYMBOLS
returns-then-count-gt-MAX_SYMBOLS c =
    pair_large c.args.th.now c.args.first.now c.args.crossed.now c.args.s.now c.symbols_under-count.result c.symbols_under-count.ensures c.if-count-gt-MAX_SYMBOLS.true

pub returns-then-same : goal.returns-then-same
returns-then-same c =
    let small : c.symbols_under-count.result ≤ 1024 = omega (arith, c.if-count-gt-MAX_SYMBOLS.false) in
    let th = c.args.th.now in
    pair_joined th c.args.first.now c.args.crossed.now c.args.s.now c.symbols_under-count.result _ _ (normalized th c.in_ok-one.one) (normalized th c.in_ok-two.two) c.symbols_under-count.ensures small
    c.in_ok-one.ensures c.in_ok-two.ensures refl refl (ap (normalized th) (c.same.ensures.0 c.if-same.true))

pub returns-then-same-2 : goal.returns-then-same-2
returns-then-same-2 c =
    let small : c.symbols_under-count.result ≤ 1024 = omega (arith, c.if-count-gt-MAX_SYMBOLS.false) in
    pair_joined c.args.th.now c.args.first.now c.args.crossed.now c.args.s.now c.symbols_under-count.result _ _ _ _ c.symbols_under-count.ensures small
    c.in_ok-one.ensures c.in_ok-two.ensures c.in_ok-left.ensures.value c.in_ok-right.ensures.value (c.same-2.ensures.0 c.if-same-2.true)

pub returns : goal.returns
returns c =
    let small : c.symbols_under-count.result ≤ 1024 = omega (arith, c.if-count-gt-MAX_SYMBOLS.false) in
    let differ : c.in_ok-left.left ≢ c.in_ok-right.right = λ e. (let both : false ≡ true = sym c.if-same-2.false ∙ c.same-2.ensures.1 e in cc) in
    pair_apart c.args.th.now c.args.first.now c.args.crossed.now c.args.s.now c.symbols_under-count.result _ _ _ _ _ c.symbols_under-count.ensures small
    c.in_ok-one.ensures c.in_ok-two.ensures c.in_ok-left.ensures.value c.in_ok-right.ensures.value c.in_ok-from.ensures differ
