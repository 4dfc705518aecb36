use Rattle.std.proofs.Common.{◌≡◌, ℕ, List, sym, ◌∙◌, ap, slice_get, slice_index, slice_set, Some, ◌+◌}
use Rattle.npa_term.specs.declared.term.Term.{Term}
use Rattle.npa_rewrite.specs.Innermost.{normalized}
use Rattle.npa_sig.specs.Values.{under}
use Rattle.std.specs.Option.{option_copied}
use Rattle.npa_sig.specs.declared.protocol.Event.{Event}
use Rattle.npa_model.specs.State.{State}
use Rattle.npa_model.specs.Runs.{events_of}
use Rattle.npa_model.proofs.Stepping.{is_missing, is_ended, is_executed, is_refused, counts_on}
use Rattle.npa_model.proofs.state.step_run.Goals as goal

pub returns-in-None : goal.returns-in-None
returns-in-None c =
    is_missing (normalized c.args.th.now) c.args.protocol.now.strands c.args.instances.now c.args.state.now c.args.instance (sym c.get.ensures.value ∙ ap option_copied c.in-None.is)

pub returns-in-None-event_at : goal.returns-in-None-event_at
returns-in-None-event_at c =
    let there : slice_get c.args.instances.now c.args.instance ≡ Some c.in-Some.named.now = sym c.get.ensures.value ∙ ap option_copied c.in-Some.is in
    let same : c.as_slice.result.now ≡ c.args.state.now.executed = c.as_slice.ensures ∙ ap (λ (s : State). s.executed) c.state.view_is in
    is_ended (normalized c.args.th.now) c.args.protocol.now.strands c.args.instances.now c.args.state.now c.args.instance c.in-Some.named.now there c.as_slice.result.now same (sym c.event_at.ensures ∙ ap option_copied c.in-None-event_at.is)

pub overflow_add-next : goal.overflow_add-next
overflow_add-next c = counts_on c.args.protocol.now.strands c.in-Some.named.now c.in-Some-event_at.event.now _ c.requires.countable (sym c.event_at.ensures ∙ ap option_copied c.in-Some-event_at.is)

pub returns-in-Ok : goal.returns-in-Ok
returns-in-Ok c =
    let there : slice_get c.args.instances.now c.args.instance ≡ Some c.in-Some.named.now = sym c.get.ensures.value ∙ ap option_copied c.in-Some.is in
    let same : c.state.inside.counts ≡ c.args.state.now.executed = ap (λ (s : State). s.executed) c.state.view_is in
    let event : Event = c.in-Some-event_at.event.now in
    let term : Term = c.in_ok-term.term in
    is_executed (normalized c.args.th.now) c.args.protocol.now.strands c.args.instances.now c.args.state.now c.args.instance c.in-Some.named.now there c.state.inside.counts same event
    (ap (λ (xs : List ℕ). slice_get (events_of c.args.protocol.now.strands c.in-Some.named.now) (slice_index xs c.args.instance)) (sym c.as_slice.ensures) ∙ sym c.event_at.ensures ∙ ap option_copied c.in-Some-event_at.is)
    c.state.inside.sent (ap (λ (s : State). s.sent) c.state.view_is) term
    (c.in_ok-term.ensures ∙ ap (λ (vs : List Term). normalized c.args.th.now (under vs event.msg)) c.as_slice-2.ensures)
    c.exchange.new.self c.in-Ok.field-0 c.set.new.self c.in-Ok.ensures
    (c.set.ensures ∙ ap (λ (xs : List ℕ). slice_set c.state.inside.counts c.args.instance (slice_index xs c.args.instance + 1)) c.as_slice.ensures)

pub returns-in-Err : goal.returns-in-Err
returns-in-Err c =
    let there : slice_get c.args.instances.now c.args.instance ≡ Some c.in-Some.named.now = sym c.get.ensures.value ∙ ap option_copied c.in-Some.is in
    let same : c.state.inside.counts ≡ c.args.state.now.executed = ap (λ (s : State). s.executed) c.state.view_is in
    let event : Event = c.in-Some-event_at.event.now in
    let term : Term = c.in_ok-term.term in
    is_refused (normalized c.args.th.now) c.args.protocol.now.strands c.args.instances.now c.args.state.now c.args.instance c.in-Some.named.now there c.state.inside.counts same event
    (ap (λ (xs : List ℕ). slice_get (events_of c.args.protocol.now.strands c.in-Some.named.now) (slice_index xs c.args.instance)) (sym c.as_slice.ensures) ∙ sym c.event_at.ensures ∙ ap option_copied c.in-Some-event_at.is)
    c.state.inside.sent (ap (λ (s : State). s.sent) c.state.view_is) term
    (c.in_ok-term.ensures ∙ ap (λ (vs : List Term). normalized c.args.th.now (under vs event.msg)) c.as_slice-2.ensures)
    c.exchange.new.self c.in-Err.fault c.in-Err.ensures
