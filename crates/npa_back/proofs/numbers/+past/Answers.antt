use Rattle.std.proofs.Common.{◌≡◌, ◌+◌, drop, ◌∙◌, ap}
use Rattle.std.specs.Prelude.{max, flat_map}
use Rattle.npa_term.specs.Variables.{variables}
use Rattle.npa_variants.specs.Search.{past}
use Rattle.npa_variants.proofs.PastNumbers.{past_at}
use Rattle.npa_back.proofs.PastNumbers.{past_later}
use Rattle.npa_back.proofs.numbers.+past.Goals as goal

pub past-returns-in-App : goal.past-returns-in-App
past-returns-in-App t c = past_at c.args.t.now _ c.in-App.args _ _ c.in-App.is c.as_slice.ensures c.past_all.ensures

pub past_all-loop-t-preserved : goal.past_all-loop-t-preserved
past_all-loop-t-preserved t c =
    let most : c.max-most.result ≡ max c.past.result c.loop-t.most = c.max-most.ensures in
    ap (λ k. max k (past (flat_map variables (drop (c.loop-t.t-index + 1) c.args.ts.now)))) most
    ∙ past_later variables c.args.ts.now c.loop-t.t-index c.t-item.result _ c.loop-t.most _ c.loop-t-test.true c.t-item.is c.past.ensures c.loop-t.invariant
