use Rattle.std.proofs.Common.{Contains, arith}
use Rattle.npa_term.specs.Canonical.{canonical}
use Rattle.npa_model.proofs.Comparing.{untrue, denied, all_more, one_fails}
use Rattle.npa_model.proofs.meeting.all_sent.Goals as goal

pub returns-then-not-sent : goal.returns-then-not-sent
returns-then-not-sent c = (
  λ t. absurd (untrue t),
  λ all. absurd (one_fails (λ t. Contains c.args.state.now.sent (canonical t)) c.args.terms.now c.loop-term.term-index c.term-item.result (omega (arith, c.loop-term-test.true)) c.term-item.is (denied c.in_ok-sent.sent c.in_ok-sent.ensures c.if-not-sent.true) all),
)

pub loop-term-preserved : goal.loop-term-preserved
loop-term-preserved c =
    all_more (λ t. Contains c.args.state.now.sent (canonical t)) c.args.terms.now c.loop-term.term-index c.term-item.result (omega (arith, c.loop-term-test.true)) c.term-item.is (c.in_ok-sent.ensures.0 c.if-not-sent.false) c.loop-term.invariant
