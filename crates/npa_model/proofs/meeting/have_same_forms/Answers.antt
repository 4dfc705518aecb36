use Rattle.std.proofs.Common.{arith}
use Rattle.npa_term.specs.Canonical.{canonical}
use Rattle.npa_model.proofs.Comparing.{untrue, denied, maps_differ}
use Rattle.npa_model.proofs.meeting.have_same_forms.Goals as goal

pub returns-then-not-same : goal.returns-then-not-same
returns-then-not-same c = (
  λ t. absurd (untrue t),
  λ e. absurd (maps_differ canonical canonical c.args.ts.now c.args.us.now c.loop-i.i c.index-ts-i.result c.index-us-i.result (omega (arith, c.loop-i-test.true)) c.loop-i.invariant.even c.index-ts-i.is c.index-us-i.is (denied c.in_ok-same.same c.in_ok-same.ensures c.if-not-same.true) e),
)
