use Rattle.std.proofs.Common.{Contains, refl, arith}
use Rattle.npa_term.specs.Canonical.{canonical}
use Rattle.npa_model.proofs.Comparing.{untrue, denied, all_more, all_done, one_fails}
use Rattle.npa_model.proofs.meeting.none_sent.Goals as goal

pub returns-then-sent : goal.returns-then-sent
returns-then-sent c = (
  λ t. absurd (untrue t),
  λ all. absurd (one_fails (λ t. Contains c.args.state.now.sent (canonical t) → ⊥) c.args.terms.now c.loop-term.term-index c.term-item.result (omega (arith, c.loop-term-test.true)) c.term-item.is (λ none. none (c.in_ok-sent.ensures.0 c.if-sent.true)) all),
)

pub loop-term-preserved : goal.loop-term-preserved
loop-term-preserved c =
    all_more (λ t. Contains c.args.state.now.sent (canonical t) → ⊥) c.args.terms.now c.loop-term.term-index c.term-item.result (omega (arith, c.loop-term-test.true)) c.term-item.is (denied c.in_ok-sent.sent c.in_ok-sent.ensures c.if-sent.false) c.loop-term.invariant

pub returns : goal.returns
returns c = (λ t. all_done (λ t. Contains c.args.state.now.sent (canonical t) → ⊥) c.args.terms.now c.loop-term.term-index (omega (arith, c.loop-term-test.false)) c.loop-term.invariant, λ all. refl)
