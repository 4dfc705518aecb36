use Rattle.std.proofs.Common.{sym, subst}
use Rattle.std.specs.Prelude.{Contains}
use Rattle.npa_unify.proofs.Members.{member_at}
use Rattle.npa_unify.proofs.clashes.some_clash.Goals as goal

pub returns-then-clash : goal.returns-then-clash
returns-then-clash c = λ _ s all.
    c.clash.ensures c.if-clash.true s
    (all c.pair-item.result.0 c.pair-item.result.1
    (subst (Contains c.args.pairs.now) (sym c.pair-item.is) (member_at c.args.pairs.now c.loop-pair.pair-index c.pair-item.result c.loop-pair-test.true)))
