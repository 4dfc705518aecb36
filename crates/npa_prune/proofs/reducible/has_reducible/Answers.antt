use Rattle.std.proofs.Common.{arith}
use Rattle.npa_rewrite.specs.Rewriting.{IsNormal}
use Rattle.npa_model.proofs.Comparing.{all_more, all_done}
use Rattle.npa_prune.proofs.Searching.{told_false}
use Rattle.npa_prune.proofs.reducible.has_reducible.Goals as goal

pub loop-t-preserved : goal.loop-t-preserved
loop-t-preserved c =
    all_more (IsNormal c.args.th.now) c.args.terms.now c.loop-t.t-index c.t-item.result (omega (arith, c.loop-t-test.true)) c.t-item.is (c.in_ok-is_normal.ensures.0 c.if-not-branch.false) c.loop-t.invariant

pub returns : goal.returns
returns c = told_false (λ one. one.2 (all_done (IsNormal c.args.th.now) c.args.terms.now c.loop-t.t-index (omega (arith, c.loop-t-test.false)) c.loop-t.invariant one.0 one.1))
