use Rattle.std.proofs.Common.{arith}
use Rattle.npa_unify.proofs.Measuring.{none_known}
use Rattle.npa_unify.proofs.bindings.nothing_known.Goals as goal

pub returns : goal.returns
returns g c = λ ns e. none_known c.loop-at.known.items c.loop-at.at ns c.loop-at.invariant (omega (arith, e, c.loop-at-test.false, c.loop-at.auto.at-end))
