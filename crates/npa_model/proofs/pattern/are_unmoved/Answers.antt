use Rattle.std.proofs.Common.{arith}
use Rattle.npa_model.proofs.Unmoved.{unmoved_more, unmoved_all}
use Rattle.npa_model.proofs.pattern.are_unmoved.Goals as goal

pub loop-strand-preserved : goal.loop-strand-preserved
loop-strand-preserved c = unmoved_more c.args.strands.now c.loop-strand.strand-index c.strand-item.result (omega (arith, c.loop-strand-test.true)) c.strand-item.is (omega (arith, c.if-strand-ne0.false)) c.loop-strand.invariant

pub returns : goal.returns
returns c = (λ t. unmoved_all c.args.strands.now c.loop-strand.strand-index (omega (arith, c.loop-strand-test.false)) c.loop-strand.invariant, λ u. cc)
