use Rattle.std.proofs.Common.{◌≡◌, ◌≤◌, map, refl, sym, ◌∙◌, ap, subst, arith}
use Rattle.std.specs.List.{flat_map}
use Rattle.std.proofs.lemmas.Result.{err_from_is_err_and}
use Rattle.npa_term.specs.Variables.{renamed}
use Rattle.npa_moves.specs.Moves.{introduce_move, past_pattern, raised_message}
use Rattle.npa_moves.specs.Picks.{picks}
use Rattle.npa_moves.specs.Steps.{Gives}
use Rattle.npa_sets.specs.Sets.{IsLow}
use Rattle.npa_back.specs.declared.kind.Kind.TheVariants as kind
use Rattle.npa_back.specs.Behind.{drawn_behind}
use Rattle.npa_back.specs.Told.{drawn_of}
use Rattle.npa_back.proofs.Following.{handed}
use Rattle.npa_back.proofs.Low.{known_low, raised_low}
use Rattle.npa_back.proofs.Moving.{introduce_told, before_is, introduced_before, message_is}
use Rattle.npa_back.proofs.Problems.{told_empty, told_goes, told_stops}
use Rattle.npa_back.proofs.introducing.add_sent.Goals as goal

pub sets_told-requires-clause-known : goal.sets_told-requires-clause-known
sets_told-requires-clause-known c =
    let n = c.args.narrowing.now in
    let by_ = c.args.by.now in
    let more : past_pattern n.pattern.now ≤ by_.next = omega (arith, c.requires.asked.next, c.requires.raised.next) in
    known_low n.pattern.now by_.next more

pub sets_told-requires-clause-message : goal.sets_told-requires-clause-message
sets_told-requires-clause-message c =
    let n = c.args.narrowing.now in
    let by_ = c.args.by.now in
    let strand = by_.strand.now in
    let v = by_.values.now in
    let message = message_is n.next strand v c.args.e c.param_count-params.result c.as_slice-terms.result.now c.in_ok-message.message c.param_count-params.ensures c.as_slice-terms.ensures c.in_ok-message.ensures in
    subst (λ m. IsLow by_.next m) (sym message) (subst (λ k. IsLow k (raised_message n.next strand v c.args.e)) (sym c.requires.raised.next) (raised_low n.next strand v c.args.e))

pub returns-in_err-sets : goal.returns-in_err-sets
returns-in_err-sets c =
    let n = c.args.narrowing.now in
    let g = n.pattern.now in
    let by_ = c.args.by.now in
    let strand = by_.strand.now in
    let v = by_.values.now in
    let message = message_is n.next strand v c.args.e c.param_count-params.result c.as_slice-terms.result.now c.in_ok-message.message c.param_count-params.ensures c.as_slice-terms.ensures c.in_ok-message.ensures in
    let before = introduced_before g by_.number strand c.args.e (map (renamed n.next) v.terms) in
    let e = err_from_is_err_and c.from_residual-in_err-sets.result c.from_residual-in_err-sets.ensures.1 in
    handed c.from_residual-in_err-sets.result e.0 c.in_err-sets.field-0.0 _ e.1 e.2
    (told_stops n.ready.now.sig.sorts n.vars.now c.args.made (kind.Introduce by_.number by_.variant c.args.e) before c.in_ok-message.message g by_.next (map (introduce_move g by_.number strand by_.variant v c.args.e) (picks g.known))
    (introduce_told g by_.number strand by_.variant v c.args.e (map (renamed n.next) v.terms) before c.in_ok-message.message n.next by_.next refl refl message c.requires.asked.next c.requires.raised.next)
    c.len-at.result c.len-at.ensures c.in_err-sets.field-0.0 c.in_err-sets.ensures)

pub returns-then-is_empty : goal.returns-then-is_empty
returns-then-is_empty c =
    let n = c.args.narrowing.now in
    let g = n.pattern.now in
    let by_ = c.args.by.now in
    let strand = by_.strand.now in
    let v = by_.values.now in
    let message = message_is n.next strand v c.args.e c.param_count-params.result c.as_slice-terms.result.now c.in_ok-message.message c.param_count-params.ensures c.as_slice-terms.ensures c.in_ok-message.ensures in
    let before = introduced_before g by_.number strand c.args.e (map (renamed n.next) v.terms) in
    told_empty n.ready.now.sig.sorts n.vars.now c.args.made (kind.Introduce by_.number by_.variant c.args.e) before c.in_ok-message.message g by_.next (map (introduce_move g by_.number strand by_.variant v c.args.e) (picks g.known))
    (introduce_told g by_.number strand by_.variant v c.args.e (map (renamed n.next) v.terms) before c.in_ok-message.message n.next by_.next refl refl message c.requires.asked.next c.requires.raised.next)
    c.len-at.result c.len-at.ensures c.in_ok-sets.sets c.in_ok-sets.ensures (c.is_empty.ensures.0 c.if-is_empty.true)

pub returns : goal.returns
returns c =
    let n = c.args.narrowing.now in
    let g = n.pattern.now in
    let by_ = c.args.by.now in
    let strand = by_.strand.now in
    let v = by_.values.now in
    let e = c.args.e in
    let message = message_is n.next strand v e c.param_count-params.result c.as_slice-terms.result.now c.in_ok-message.message c.param_count-params.ensures c.as_slice-terms.ensures c.in_ok-message.ensures in
    let raised : c.as_slice.result.now ≡ map (renamed n.next) v.terms = c.as_slice.ensures ∙ c.in_ok-terms.ensures ∙ ap (map (renamed n.next)) c.as_slice-terms.ensures in
    let built = before_is g by_.number strand e c.in-Ok.event c.param_count-params.result c.as_slice.result.now c.new.result c.in_ok-before.before c.in-Ok.ensures.1 c.param_count-params.ensures c.new.ensures c.in_ok-before.ensures in
    told_goes n.ready.now.sig.sorts n.vars.now c.args.made (kind.Introduce by_.number by_.variant e) c.in_ok-before.before c.in_ok-message.message g by_.next (map (introduce_move g by_.number strand by_.variant v e) (picks g.known))
    (introduce_told g by_.number strand by_.variant v e c.as_slice.result.now c.in_ok-before.before c.in_ok-message.message n.next by_.next raised built message c.requires.asked.next c.requires.raised.next)
    c.len-at.result c.len-at.ensures c.in_ok-sets.sets c.add_told.result c.in_ok-sets.ensures
    (subst (λ ss. Gives c.add_told.result (drawn_behind n.vars.now c.args.made (flat_map (drawn_of (kind.Introduce by_.number by_.variant e) n.vars.now c.in_ok-before.before c.in_ok-message.message g.unknown) ss))) c.as_slice-2.ensures
    (subst (λ k. Gives c.add_told.result (drawn_behind n.vars.now c.args.made (flat_map (drawn_of (kind.Introduce by_.number by_.variant k) n.vars.now c.in_ok-before.before c.in_ok-message.message g.unknown) c.as_slice-2.result.now))) c.in-Ok.ensures.1 c.add_told.ensures))
