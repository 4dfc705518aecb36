use Rattle.std.proofs.Common.{rules, ◌≤◌, length}
use Rattle.npa_sig.proofs.Operators.{indexed_new}
use Rattle.npa_sig.proofs.signature.Sig.new.Goals as goal

pub invariant_of-result : goal.invariant_of-result
invariant_of-result c =
    let past : length c.as_slice-decl-items.result.now ≤ c.loop-k.k = search rules in
    indexed_new c.loop-k.names c.args.sorts c.args.sort_names c.args.ops c.as_slice-decl-items.result.now c.loop-k.k
    c.requires.named c.requires.few c.requires.sorts c.as_slice-decl-items.ensures past c.loop-k.invariant.rest c.loop-k.invariant.named
