use Rattle.std.proofs.Common.{◌≡◌, ◌<◌, None, Some, ap, sym, ◌∙◌, subst, length, arith}
use Rattle.std.proofs.lemmas.Option.{slice_get-get_or}
use Rattle.npa_accept.specs.Unaccepted.{IsFirst}
use Rattle.npa_close.specs.Checks.{aim_parts}
use Rattle.npa_close.proofs.Accepting.{none_before, all_accepted, one_more, this_aim}
use Rattle.npa_close.proofs.aims.aim_fault.Goals as goal

pub unaccepted_in-requires-clause-fit : goal.unaccepted_in-requires-clause-fit
unaccepted_in-requires-clause-fit c =
    let aim = c.index-aims-place.result in
    let small : c.loop-place.place < length c.args.aims.now = omega (arith, c.loop-place-test.true) in
    c.requires.fit c.loop-place.place aim (slice_get-get_or c.args.aims.now c.loop-place.place aim small ∙ ap Some (sym c.index-aims-place.is))

pub loop-place-init : goal.loop-place-init
loop-place-init c = none_before c.args.th.now c.args.aims.now

pub loop-place-preserved : goal.loop-place-preserved
loop-place-preserved c =
    let aim = c.index-aims-place.result in
    let found : IsFirst c.args.th.now (aim_parts aim) None = subst (IsFirst c.args.th.now (aim_parts aim)) c.in_default.is c.in_ok-found.ensures in
    one_more c.args.th.now c.args.aims.now c.loop-place.place c.loop-place.invariant aim (omega (arith, c.loop-place-test.true)) c.index-aims-place.is found

pub returns-in-Some : goal.returns-in-Some
returns-in-Some c =
    let aim = c.index-aims-place.result in
    let found : IsFirst c.args.th.now (aim_parts aim) (Some c.in-Some.found) = subst (IsFirst c.args.th.now (aim_parts aim)) c.in-Some.is c.in_ok-found.ensures in
    this_aim c.args.th.now c.args.aims.now c.loop-place.place c.loop-place.invariant aim (omega (arith, c.loop-place-test.true)) c.index-aims-place.is c.in-Some.found found

pub returns : goal.returns
returns c = all_accepted c.args.th.now c.args.aims.now c.loop-place.place c.loop-place.invariant (omega (arith, c.loop-place-test.false))
