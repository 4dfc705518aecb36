use Rattle.std.proofs.Common.{◌≡◌, ◌∙◌, arith}
use Rattle.std.proofs.lemmas.Grind.{common_steps}
use Rattle.npa_term.proofs.Numbered.{number_step}
use Rattle.npa_term.proofs.numbers.number.Goals as goal

pub loop-i-preserved : goal.loop-i-preserved
loop-i-preserved c =
    let same : c.in-Ok.num ≡ c.loop-i.i = grind (arith, common_steps) in
    c.in_ok-push.ensures.items
    ∙ number_step c.loop-i.bindings.items c.args.vars.now c.loop-i.i c.in-Ok.num (record { num = 0; sort = 0 }) c.loop-i-test.true same c.loop-i.invariant
