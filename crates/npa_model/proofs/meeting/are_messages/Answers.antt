use Rattle.std.proofs.Common.{arith}
use Rattle.npa_term.specs.Canonical.{canonical}
use Rattle.npa_sig.specs.Values.{under}
use Rattle.npa_rewrite.specs.Innermost.{normalized}
use Rattle.npa_model.proofs.Comparing.{untrue, denied, maps_differ}
use Rattle.npa_model.proofs.meeting.are_messages.Goals as goal

pub returns-then-not-same : goal.returns-then-not-same
returns-then-not-same c = (
  λ t. absurd (untrue t),
  λ e. absurd (maps_differ (λ event. normalized c.args.th.now (under c.args.values.now event.msg)) canonical c.args.events.now c.args.msgs.now c.loop-i.i c.index-events-i.result c.index-msgs-i.result (omega (arith, c.loop-i-test.true)) c.loop-i.invariant.even c.index-events-i.is c.index-msgs-i.is (denied c.in_ok-same.same c.in_ok-same.ensures c.if-not-same.true) e),
)
