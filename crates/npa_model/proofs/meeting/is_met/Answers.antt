use Rattle.npa_rewrite.specs.Innermost.{normalized}
use Rattle.npa_model.proofs.Comparing.{untrue, denied}
use Rattle.npa_model.proofs.Picking.{met_told, met_facts}
use Rattle.npa_model.proofs.meeting.is_met.Goals as goal

pub returns-then-not-facts : goal.returns-then-not-facts
returns-then-not-facts c = λ schedule counted. (
  λ t. absurd (untrue t),
  λ met. absurd (denied c.in_ok-facts.facts c.in_ok-facts.ensures c.if-not-facts.true (met_facts (normalized c.args.th.now) c.args.protocol.now.strands c.args.instances.now schedule c.args.standing c.args.state.now counted c.args.state.now.sent c.args.g.now met)),
)

pub returns : goal.returns
returns c = λ schedule counted.
    met_told (normalized c.args.th.now) c.args.protocol.now.strands c.args.instances.now schedule c.args.standing c.args.state.now counted c.args.state.now.sent c.args.g.now
    c.as_slice.result.now c.in_ok-rows.rows c.as_slice-2.result.now c.new-none.result c.in_ok-met.met c.as_slice.ensures c.in_ok-rows.ensures c.as_slice-2.ensures c.new-none.ensures (c.in_ok-facts.ensures.0 c.if-not-facts.false) c.in_ok-met.ensures
