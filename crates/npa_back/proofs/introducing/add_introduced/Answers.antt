use Rattle.std.proofs.Common.{◌<◌, length, true, []}
use Rattle.npa_sig.specs.declared.protocol.Strand.{Strand as Role}
use Rattle.npa_moves.specs.Lists.{strand_problems}
use Rattle.npa_moves.specs.Steps.{found_variants, solve_over}
use Rattle.std.proofs.Common.{◌<◌, true, [], length, ◌∙◌, ap, subst}
use Rattle.npa_sig.specs.declared.protocol.Protocol.{Protocol}
use Rattle.std.proofs.lemmas.Option.{slice_get-get_or}
use Rattle.std.proofs.lemmas.Result.{err_from_is_err_and}
use Rattle.npa_back.proofs.Following.{handed, next_place, place_stops}
use Rattle.npa_back.proofs.introducing.add_introduced.Goals as goal

-- src/introducing.rt:36:16
pub returns-in_err-made : goal.returns-in_err-made
returns-in_err-made c =
    let xs = c.args.narrowing.now.ready.now.strands in
    let there = slice_get-get_or xs c.loop-s.s (let d : Role = record { name = []; intruder = true; vars = []; fresh = 0; names = []; events = [] } in d) (subst (λ n. c.loop-s.s < n) (c.len-s-end.ensures ∙ ap (λ (x : Protocol). length x.strands) c.protocol.ensures) c.loop-s-test.true) in
    let e = err_from_is_err_and c.from_residual.result c.from_residual.ensures.1 in
    handed c.from_residual.result e.0 c.in_err-made.field-0.0 _ e.1 e.2
    (place_stops (solve_over c.args.narrowing.now.ready.now.sig.sorts) c.args.narrowing.now.vars.now (strand_problems (found_variants c.args.narrowing.now.ready.now) c.args.narrowing.now.pattern.now) xs _ c.loop-s.made c.loop-s.s _ c.in_err-made.field-0.0 there c.loop-s.invariant (c.in_err-made.ensures _ there))

-- src/introducing.rt:35:5
pub loop-s-preserved : goal.loop-s-preserved
loop-s-preserved c =
    let xs = c.args.narrowing.now.ready.now.strands in
    let there = slice_get-get_or xs c.loop-s.s (let d : Role = record { name = []; intruder = true; vars = []; fresh = 0; names = []; events = [] } in d) (subst (λ n. c.loop-s.s < n) (c.len-s-end.ensures ∙ ap (λ (x : Protocol). length x.strands) c.protocol.ensures) c.loop-s-test.true) in
    next_place (solve_over c.args.narrowing.now.ready.now.sig.sorts) c.args.narrowing.now.vars.now (strand_problems (found_variants c.args.narrowing.now.ready.now) c.args.narrowing.now.pattern.now) xs _ c.loop-s.made c.in_ok-made.made c.loop-s.s _ there c.loop-s.invariant (c.in_ok-made.ensures _ there)
