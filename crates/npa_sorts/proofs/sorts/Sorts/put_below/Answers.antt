use Rattle.std.proofs.Common.{◌≡◌, ◌+◌, ◌<◌, true, length, length-set, set, vec_len, ap, subst, sym, ◌∙◌, arith}
use Rattle.npa_sorts.specs.Subsorts.{subsorts}
use Rattle.npa_sorts.specs.Table.{rows_of, IsSquare}
use Rattle.npa_sorts.proofs.TableLemmas.{row_long, length-rows_of}
use Rattle.npa_sorts.proofs.Grown.{pair_put, order_pairs}
use Rattle.npa_sorts.proofs.sorts.Sorts.put_below.Goals as goal

pub at_or_above-requires : goal.at_or_above-requires
at_or_above-requires c =
    let square = c.self.invariant.table.square in
    let count : c.self.inside.declared ≡ c.args.self.now.declared = ap (λ o. o.declared) c.self.view_is in
    let high : c.args.upper < c.self.inside.declared + 2 = omega (arith, count, c.requires.upper) in
    let size : length c.self.inside.below.items ≡ c.self.inside.declared + 2 = sym (length-rows_of c.self.inside.below.items) ∙ square.height in
    let long : vec_len c.index.result.now ≡ c.self.inside.declared + 2 =
    row_long (c.self.inside.declared + 2) c.self.inside.below.items c.args.upper c.index.result.now square (omega (arith, size, high)) c.index.ensures in
    omega (arith, c.deref.ensures.len, long, high)

pub raise-requires : goal.raise-requires
raise-requires c =
    let square = c.self.invariant.table.square in
    let count : c.self.inside.declared ≡ c.args.self.now.declared = ap (λ o. o.declared) c.self.view_is in
    let high : c.args.upper < c.self.inside.declared + 2 = omega (arith, count, c.requires.upper) in
    let size : length c.self.inside.below.items ≡ c.self.inside.declared + 2 = sym (length-rows_of c.self.inside.below.items) ∙ square.height in
    let long : length c.deref-2.result.now ≡ c.self.inside.declared + 2 =
    ap length c.deref-2.ensures.value ∙ ap length c.in_ok-above.ensures ∙ length-set c.deref.result.now c.args.upper true ∙ c.deref.ensures.len
    ∙ row_long (c.self.inside.declared + 2) c.self.inside.below.items c.args.upper c.index.result.now square (omega (arith, size, high)) c.index.ensures in
    record { square = subst (λ n. IsSquare n (rows_of c.self.inside.below.items)) (sym long) square; within = omega (arith, long, count, c.requires.lower) }

pub invariant_of-self-2 : goal.invariant_of-self-2
invariant_of-self-2 c =
    order_pairs c.self.inside.declared c.args.lower c.args.upper c.self.inside.pairs _ _ c.in_ok-push.ensures.ok
    (pair_put (subsorts c.self.inside.declared c.self.inside.pairs) c.args.self.now c.args.lower c.args.upper c.self.inside.below.items c.raise.new.table.items c.deref-2.result.now c.index.result.now c.self.invariant c.self.view_is
    c.requires.lower c.requires.upper c.requires.not_fresh c.requires.acyclic c.index.ensures (c.deref-2.ensures.value ∙ c.in_ok-above.ensures ∙ ap (λ xs. set xs c.args.upper true) c.deref.ensures.value) c.raise.ensures.square c.raise.ensures.raised)
