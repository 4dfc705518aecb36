use Rattle.std.proofs.Common.{arith}
use Rattle.npa_model.proofs.Comparing.{untrue, denied}
use Rattle.npa_model.proofs.Picking.{facts_exactly, facts_fail}
use Rattle.npa_model.proofs.meeting.are_facts_met.Goals as goal

pub returns-then-not-known : goal.returns-then-not-known
returns-then-not-known c = (
  λ t. absurd (untrue t),
  λ facts. absurd (facts_fail c.args.state.now.sent c.args.g.now c.as_slice.result.now c.as_slice.ensures (denied c.in_ok-known.known c.in_ok-known.ensures c.if-not-known.true) facts),
)

pub returns : goal.returns
returns c = facts_exactly c.args.state.now.sent c.args.g.now c.as_slice.result.now c.as_slice-2.result.now c.in_ok-unknown.unknown c.as_slice.ensures c.as_slice-2.ensures (c.in_ok-known.ensures.0 c.if-not-known.false) c.in_ok-unknown.ensures
