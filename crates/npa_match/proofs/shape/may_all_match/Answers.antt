use Rattle.npa_match.proofs.Shapes.{unlike_member}
use Rattle.npa_match.proofs.shape.may_all_match.Goals as goal

pub returns-then-not-may_match : goal.returns-then-not-may_match
returns-then-not-may_match c =
    λ _. unlike_member c.args.pairs.now c.loop-t.t-index c.loop-t-item.result c.loop-t-test.true c.loop-t-item.is (c.may_match.ensures c.if-not-may_match.true)
