use Rattle.std.proofs.Common.{◌≡◌, false, List, Contains, refl, sym, subst, ◌∙◌, arith}
use Rattle.npa_sig.specs.declared.protocol.Event.{Event}
use Rattle.npa_model.specs.Patterns.{events_at}
use Rattle.npa_model.proofs.Comparing.{all_more, all_done}
use Rattle.npa_model.proofs.Places.{front_at, member_at}
use Rattle.npa_prune.proofs.early.is_silent.Goals as goal

pub loop-event-preserved : goal.loop-event-preserved
loop-event-preserved c =
    all_more (λ (event : Event). event.sent ≡ false) c.executed-event-items.result.now c.loop-event.event-index c.event-item.result (omega (arith, c.loop-event-test.true)) c.event-item.is c.if-event.false c.loop-event.invariant

pub returns : goal.returns
returns c = (
  λ t k event l e.
      let events = events_at c.args.protocol.now.strands c.args.p.now.strand in
      all_done (λ (x : Event). x.sent ≡ false) c.executed-event-items.result.now c.loop-event.event-index (omega (arith, c.loop-event-test.false)) c.loop-event.invariant event
      (subst (λ (xs : List Event). Contains xs event) (sym c.executed-event-items.ensures) (member_at _ k event (front_at c.args.p.now.bar events k l ∙ e))),
  λ all. refl,
)
