use Rattle.std.proofs.Common.{arith, sym, ◌∙◌}
use Rattle.npa_model.proofs.Starting.{told, goes_on}
use Rattle.npa_model.proofs.start.repeated_name.Goals as goal

pub returns-then-is_some : goal.returns-then-is_some
returns-then-is_some c =
    told c.args.strands.now c.args.instances.now c.loop-k.k c.index-instances-k.result (omega arith) c.index-instances-k.is c.fresh_values.result.now c.fresh_values.ensures
    c.loop-k.seen.keys _ c.loop-k.invariant c.in_ok-name.name c.in_ok-name.ensures.name (sym c.is_some.ensures ∙ c.if-is_some.true)

pub loop-k-preserved : goal.loop-k-preserved
loop-k-preserved c =
    goes_on c.args.strands.now c.args.instances.now c.loop-k.k c.index-instances-k.result (omega arith) c.index-instances-k.is c.fresh_values.result.now c.fresh_values.ensures
    c.loop-k.seen.keys _ c.loop-k.invariant c.in_ok-name.name c.in_ok-name.ensures.name (sym c.is_some.ensures ∙ c.if-is_some.false) c.add_names.new.seen.keys c.in_ok-name.ensures.seen
