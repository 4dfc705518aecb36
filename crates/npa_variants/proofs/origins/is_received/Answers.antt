use Rattle.std.proofs.Common.{◌≡◌, ◌∙◌, ◌<◌, sym, false, min, length, arith}
use Rattle.std.proofs.lemmas.Grind.{common_steps}
use Rattle.npa_term.specs.Numbering.{is_listed}
use Rattle.npa_term.specs.Variables.{variables}
use Rattle.npa_variants.proofs.OriginSteps.{received_pass, received_end}
use Rattle.npa_variants.proofs.origins.is_received.Goals as goal

pub loop-i-preserved : goal.loop-i-preserved
loop-i-preserved c =
    let small : c.loop-i.i < length c.args.events.now = grind (arith, common_steps) in
    let few : c.loop-i.i < length c.args.messages.now = grind (arith, common_steps) in
    let free : is_listed (variables c.index-messages-i.result) c.args.v ≡ false = grind (arith, common_steps) in
    received_pass c.args.v c.args.events.now c.args.messages.now c.loop-i.i c.index-messages-i.result small few c.index-messages-i.is free ∙ c.loop-i.invariant

pub returns : goal.returns
returns c =
    let end : c.loop-i.i ≡ min (length c.args.events.now) (length c.args.messages.now) = grind (arith, common_steps) in
    sym (sym c.loop-i.invariant ∙ received_end c.args.v c.args.events.now c.args.messages.now c.loop-i.i end)
