use Rattle.std.proofs.Common.{arith}
use Rattle.npa_unify.proofs.Ending.{finished_all, unbound_yet}
use Rattle.npa_unify.proofs.substs.finish.Goals as goal

pub returns : goal.returns
returns c = finished_all c.args.bound.now c.loop-at.at c.loop-at.s c.requires.sound (omega (arith, c.loop-at-test.false)) c.loop-at.invariant

pub bind-requires : goal.bind-requires
bind-requires c = unbound_yet c.args.bound.now c.loop-at.at c.index-bound-at.result c.loop-at.s c.requires.sound c.loop-at-test.true c.loop-at.invariant
