use Rattle.std.proofs.Common.{◌<◌, length, arith}
use Rattle.std.specs.Prelude.{zip}
use Rattle.npa_replay.proofs.Holding.{pair_added}
use Rattle.npa_replay.proofs.scene.pairs_of.Goals as goal

pub loop-i-preserved : goal.loop-i-preserved
loop-i-preserved c =
    let l : c.loop-i.i < length c.args.ts.now = omega (arith, c.min-i-end.ensures) in
    let m : c.loop-i.i < length c.args.us.now = omega (arith, c.min-i-end.ensures) in
    pair_added c.loop-i.pairs c.push.new.self _ c.args.ts.now c.args.us.now (zip c.args.ts.now c.args.us.now) c.loop-i.i c.in_ok-push.ensures.ok l m c.index-ts-i.is c.index-us-i.is c.loop-i.invariant
