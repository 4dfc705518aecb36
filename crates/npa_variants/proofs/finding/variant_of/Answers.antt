use Rattle.std.proofs.Common.{◌<◌, ◌≤◌, length, zip, ◌∙◌, ap, arith}
use Rattle.std.proofs.lemmas.Grind.{common_steps}
use Rattle.npa_variants.proofs.Distinct.{all_bound, bound_next, unbound_yet, variant_made}
use Rattle.npa_variants.proofs.finding.variant_of.Goals as goal

pub bind-requires : goal.bind-requires
bind-requires c =
    let vs = c.args.vars.now in
    let i = c.loop-i.i in
    let short : i < length vs = grind (arith, common_steps) in
    unbound_yet vs c.split.result.0.now i _ c.loop-i.subst c.requires short (grind (arith, common_steps)) c.loop-i.invariant

pub loop-i-preserved : goal.loop-i-preserved
loop-i-preserved c =
    let vs = c.args.vars.now in
    let i = c.loop-i.i in
    let short : i < length vs = grind (arith, common_steps) in
    bound_next vs c.split.result.0.now i _ c.in_ok-copy.field-0 c.loop-i.subst c.bind.new.self short c.loop-i-test.true (grind (arith, common_steps)) (grind (arith, common_steps))
    c.loop-i.invariant c.in_ok-bind.ensures.ok

pub returns : goal.returns
returns c =
    let vs = c.args.vars.now in
    let values = c.split.result.0.now in
    let short : length values ≤ length vs = grind (arith, common_steps) in
    let ended : length values ≤ c.loop-i.i = omega (arith, c.loop-i-test.false) in
    let all = all_bound vs values c.loop-i.i c.loop-i.subst ended short c.loop-i.invariant in
    variant_made vs c.args.row.now c.subst-2.inside.bindings.items c.in_ok-copy_all.field-0 (c.subst-2.view_is ∙ all ∙ ap (zip vs) c.split.ensures.values)
    (c.in_ok-copy_all.ensures ∙ c.split.ensures.terms)
