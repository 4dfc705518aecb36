use Rattle.std.proofs.Common.{◌≤◌, min, length, arith}
use Rattle.npa_module.proofs.Numbering.{all_numbered}
use Rattle.npa_module.proofs.scopes.scope_of.Goals as goal

pub returns : goal.returns
returns c =
    let stop : min (length c.args.names.now) (length c.args.sorts.now) ≤ c.loop-k.k = omega (arith, c.loop-k-test.false, c.min-k-end.ensures) in
    all_numbered c.args.names.now c.args.sorts.now c.loop-k.k c.loop-k.scope stop c.loop-k.invariant
