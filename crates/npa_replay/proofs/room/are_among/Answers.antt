use Rattle.std.proofs.Common.{arith}
use Rattle.npa_replay.proofs.Crowding.{among_none, among_more, among_all}
use Rattle.npa_replay.proofs.room.are_among.Goals as goal

pub loop-number-init : goal.loop-number-init
loop-number-init c = among_none c.args.numbers.now c.args.others.now

pub loop-number-preserved : goal.loop-number-preserved
loop-number-preserved c =
    among_more c.args.numbers.now c.args.others.now c.loop-number.number-index c.loop-number.invariant (c.holds.ensures.0 c.if-not-holds.false)

pub returns : goal.returns
returns c _ = among_all c.args.numbers.now c.args.others.now c.loop-number.number-index c.loop-number.invariant (omega (arith, c.loop-number-test.false))
