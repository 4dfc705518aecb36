use Rattle.std.proofs.Common.{◌<◌, true}
use Rattle.npa_moves.specs.Lists.{event_problems}
use Rattle.npa_moves.specs.Steps.{solve_over}
use Rattle.std.proofs.Common.{◌<◌, true, subst}
use Rattle.npa_sig.specs.declared.protocol.Event.{Event}
use Rattle.npa_term.specs.declared.term.Term.TheVariants.{Name}
use Rattle.std.proofs.lemmas.Option.{slice_get-get_or}
use Rattle.std.proofs.lemmas.Result.{err_from_is_err_and}
use Rattle.npa_back.proofs.Following.{handed, next_place, place_stops}
use Rattle.npa_back.proofs.introducing.add_events.Goals as goal

-- src/introducing.rt:139:16
pub returns-in_err-made : goal.returns-in_err-made
returns-in_err-made c =
    let xs = c.args.by.now.strand.now.events in
    let there = slice_get-get_or xs c.loop-e.e (let d : Event = record { sent = true; msg = Name 0 } in d) (subst (λ n. c.loop-e.e < n) c.len-e-end.ensures c.loop-e-test.true) in
    let e = err_from_is_err_and c.from_residual.result c.from_residual.ensures.1 in
    handed c.from_residual.result e.0 c.in_err-made.field-0.0 _ e.1 e.2
    (place_stops (solve_over c.args.narrowing.now.ready.now.sig.sorts) c.args.narrowing.now.vars.now (event_problems c.args.narrowing.now.pattern.now c.args.by.now.number c.args.by.now.strand.now c.args.by.now.variant c.args.by.now.values.now) xs _ c.loop-e.made c.loop-e.e _ c.in_err-made.field-0.0 there c.loop-e.invariant (c.in_err-made.ensures _ there))

-- src/introducing.rt:138:5
pub loop-e-preserved : goal.loop-e-preserved
loop-e-preserved c =
    let xs = c.args.by.now.strand.now.events in
    let there = slice_get-get_or xs c.loop-e.e (let d : Event = record { sent = true; msg = Name 0 } in d) (subst (λ n. c.loop-e.e < n) c.len-e-end.ensures c.loop-e-test.true) in
    next_place (solve_over c.args.narrowing.now.ready.now.sig.sorts) c.args.narrowing.now.vars.now (event_problems c.args.narrowing.now.pattern.now c.args.by.now.number c.args.by.now.strand.now c.args.by.now.variant c.args.by.now.values.now) xs _ c.loop-e.made c.in_ok-made.made c.loop-e.e _ there c.loop-e.invariant (c.in_ok-made.ensures _ there)
