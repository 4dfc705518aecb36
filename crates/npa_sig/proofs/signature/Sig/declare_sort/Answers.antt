use Rattle.std.proofs.Common.{rules, ◌≡◌, ◌+◌, ◌++◌, [], ◌∷◌}
use Rattle.npa_sorts.specs.Subsorts.{subsorts}
use Rattle.npa_sig.specs.Signature.{Signature}
use Rattle.npa_sig.proofs.Operators.{indexed_sort}
use Rattle.npa_sig.proofs.signature.Sig.declare_sort.Goals as goal

pub invariant_of-result : goal.invariant_of-result
invariant_of-result c =
    let sig : Signature = record { sorts = c.self.inside.sorts; sort_names = c.self.inside.sort_names; ops = c.self.inside.ops } in
    let sorts : c.declare.new.self ≡ subsorts (c.self.inside.sorts.declared + 1) c.self.inside.sorts.pairs = search rules in
    let names : c.push.new.self ≡ c.self.inside.sort_names ++ c.args.name ∷ [] = search rules in
    indexed_sort c.self.inside.names sig c.args.name c.declare.new.self c.push.new.self c.self.invariant sorts names
