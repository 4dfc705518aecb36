use Rattle.std.proofs.Common.{◌<◌, length, arith}
use Rattle.std.proofs.lemmas.Grind.{common_steps}
use Rattle.npa_variants.proofs.Distinct.{bound_next, unbound_yet}
use Rattle.npa_drafts.proofs.numbering.bound.Goals as goal

pub bind-requires : goal.bind-requires
bind-requires c =
    let vs = c.args.vars.now in
    let i = c.loop-i.i in
    let short : i < length vs = grind (arith, common_steps) in
    unbound_yet vs c.args.values.now i _ c.loop-i.s c.requires.once short (grind (arith, common_steps)) c.loop-i.invariant

pub loop-i-preserved : goal.loop-i-preserved
loop-i-preserved c =
    let vs = c.args.vars.now in
    let i = c.loop-i.i in
    let short : i < length vs = grind (arith, common_steps) in
    bound_next vs c.args.values.now i _ c.in_ok-copy.field-0 c.loop-i.s c.bind.new.self short c.loop-i-test.true (grind (arith, common_steps)) (grind (arith, common_steps))
    c.loop-i.invariant c.in_ok-bind.ensures.ok
