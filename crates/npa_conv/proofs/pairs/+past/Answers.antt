use Rattle.std.proofs.Common.{◌≡◌, ◌+◌, drop, sym, subst, arith}
use Rattle.std.specs.Prelude.{max, flat_map}
use Rattle.npa_term.specs.Variables.{variables}
use Rattle.npa_conv.specs.Overlaps.{past}
use Rattle.npa_conv.proofs.Occurrences.{past_later}
use Rattle.npa_conv.proofs.pairs.+past.Goals as goal

pub loop-arg-preserved : goal.loop-arg-preserved
loop-arg-preserved t c =
    let items = c.as_slice-arg-items.result.now in
    let most : c.max-most.result ≡ max c.past.result c.loop-arg.most = omega (arith, c.max-most.ensures) in
    subst (λ m. max m (past (flat_map variables (drop (c.loop-arg.arg-index + 1) items))) ≡ past (variables c.args.t.now)) (sym most)
    (past_later items c.loop-arg.arg-index c.arg-item.result c.past.result c.loop-arg.most (past (variables c.args.t.now)) c.loop-arg-test.true c.arg-item.is c.past.ensures c.loop-arg.invariant)
