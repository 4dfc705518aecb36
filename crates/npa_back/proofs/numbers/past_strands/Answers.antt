use Rattle.std.proofs.Common.{◌≡◌, flat_map, ◌+◌}
use Rattle.npa_variants.specs.Search.{past as past_of}
use Rattle.npa_model.specs.Fitting.{strand_variables}
use Rattle.std.proofs.Common.{drop, ◌∙◌, ap}
use Rattle.std.specs.Prelude.{max}
use Rattle.npa_back.proofs.PastNumbers.{past_later}
use Rattle.npa_back.proofs.numbers.past_strands.Goals as goal

-- src/numbers.rt:23:5
pub loop-p-preserved : goal.loop-p-preserved
loop-p-preserved c =
    let most : c.max-most.result ≡ max c.past_strand.result c.loop-p.most = c.max-most.ensures in
    ap (λ k. max k (past_of (flat_map strand_variables (drop (c.loop-p.p-index + 1) c.args.strands.now)))) most
    ∙ past_later strand_variables c.args.strands.now c.loop-p.p-index c.p-item.result _ c.loop-p.most _ c.loop-p-test.true c.p-item.is c.past_strand.ensures c.loop-p.invariant
