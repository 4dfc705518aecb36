use Rattle.std.proofs.Common.{[], ◌<◌}
use Rattle.npa_moves.specs.Lists.{send_problems}
use Rattle.npa_moves.specs.Steps.{solve_over}
use Rattle.std.proofs.Common.{◌<◌, [], subst}
use Rattle.npa_model.specs.declared.pattern.PStrand.{PStrand}
use Rattle.std.proofs.lemmas.Option.{slice_get-get_or}
use Rattle.std.proofs.lemmas.Result.{err_from_is_err_and}
use Rattle.npa_back.proofs.Following.{handed, next_place, place_stops}
use Rattle.npa_back.proofs.backward.all_sends.Goals as goal

-- src/backward.rt:68:16
pub returns-in_err-made : goal.returns-in_err-made
returns-in_err-made c =
    let xs = c.args.narrowing.now.pattern.now.strands in
    let there = slice_get-get_or xs c.loop-k.k (let p : PStrand = record { strand = 0; bar = 0; args = []; msgs = [] } in p) (subst (λ n. c.loop-k.k < n) c.len-k-end.ensures c.loop-k-test.true) in
    let e = err_from_is_err_and c.from_residual.result c.from_residual.ensures.1 in
    handed c.from_residual.result e.0 c.in_err-made.field-0.0 _ e.1 e.2
    (place_stops (solve_over c.args.narrowing.now.ready.now.sig.sorts) c.args.narrowing.now.vars.now (send_problems c.args.narrowing.now.ready.now.strands c.args.narrowing.now.pattern.now) xs _ c.loop-k.made c.loop-k.k _ c.in_err-made.field-0.0 there c.loop-k.invariant (c.in_err-made.ensures _ there))

-- src/backward.rt:67:5
pub loop-k-preserved : goal.loop-k-preserved
loop-k-preserved c =
    let xs = c.args.narrowing.now.pattern.now.strands in
    let there = slice_get-get_or xs c.loop-k.k (let p : PStrand = record { strand = 0; bar = 0; args = []; msgs = [] } in p) (subst (λ n. c.loop-k.k < n) c.len-k-end.ensures c.loop-k-test.true) in
    next_place (solve_over c.args.narrowing.now.ready.now.sig.sorts) c.args.narrowing.now.vars.now (send_problems c.args.narrowing.now.ready.now.strands c.args.narrowing.now.pattern.now) xs _ c.loop-k.made c.in_ok-made.made c.loop-k.k _ there c.loop-k.invariant (c.in_ok-made.ensures _ there)
