use Rattle.std.proofs.Common.{List, map, ap, sym, ◌∙◌, subst, ◌↔◌, ◌≡◌, Bool, arith}
use Rattle.std.specs.Prelude.{IsTrue}
use Rattle.npa_term.specs.declared.term.Term.{Term}
use Rattle.npa_term.specs.Canonical.{canonical}
use Rattle.npa_sig.specs.Values.{under}
use Rattle.npa_rewrite.specs.Innermost.{normalized}
use Rattle.npa_model.proofs.Comparing.{if_ok}
use Rattle.npa_model.proofs.Picking.{suits_exactly}
use Rattle.npa_model.proofs.meeting.suits.Goals as goal

pub returns : goal.returns
returns c = if_ok c.are_messages.result c.are_messages.ensures (λ b test.
    suits_exactly (normalized c.args.th.now) c.args.protocol.now.strands c.args.standing c.args.instance.now c.args.done c.args.p.now c.first_events-events.result.now b
    (omega (arith, c.if-instance-p.false)) (c.stands.ensures.0 c.if-not-stands.false)
    (ap (map canonical) (sym c.as_slice.ensures) ∙ c.in_ok-values.ensures.0 c.if-not-values.false ∙ ap (map canonical) c.as_slice-2.ensures)
    c.first_events-events.ensures
    (subst (λ (vs : List Term). IsTrue b ↔ (map (λ event. normalized c.args.th.now (under vs event.msg)) c.first_events-events.result.now ≡ map canonical c.args.p.now.msgs)) c.as_slice-3.ensures
    (subst (λ (ms : List Term). IsTrue b ↔ (map (λ event. normalized c.args.th.now (under c.as_slice-3.result.now event.msg)) c.first_events-events.result.now ≡ map canonical ms)) c.as_slice-4.ensures test)))
