use Rattle.std.proofs.Common.{◌≡◌, ◌<◌, false, nat_eq, ◌||◌, ◌&&◌, length, get_or, ap, subst, ◌∙◌, arith}
use Rattle.std.proofs.lemmas.List.{with_items_is}
use Rattle.std.specs.Vec.{with_items}
use Rattle.npa_sorts.specs.Table.{rows_of}
use Rattle.npa_sorts.proofs.TableLemmas.{raised_row, row_long, length-rows_of}
use Rattle.npa_sorts.proofs.table.raise.Goals as goal

pub loop-s-preserved : goal.loop-s-preserved
loop-s-preserved c =
    let vs = c.loop-s.table.items in
    let v = c.index_mut.result.now in
    let n = length c.args.above.now in
    let here : c.loop-s.s < length vs = omega (arith, c.loop-s-test.true, c.loop-s.invariant.square.height, length-rows_of vs) in
    let long : length c.raise_row.new.row ≡ n = c.raise_row.auto.row ∙ c.deref_mut.ensures.len ∙ row_long n vs c.loop-s.s v c.loop-s.invariant.square here c.index_mut.ensures.value in
    let written : (with_items v c.raise_row.new.row).items ≡ c.raise_row.new.row = with_items_is v c.raise_row.new.row (c.raise_row.auto.row ∙ c.deref_mut.ensures.len) in
    raised_row c.loop-s.s n c.args.lower c.args.above.now (rows_of c.args.table.now.items) vs v (with_items v c.raise_row.new.row)
    c.loop-s.invariant c.loop-s-test.true c.requires.within c.index_mut.ensures.value (ap length written ∙ long)
    (λ t high. ap (λ xs. get_or xs t false) written
    ∙ subst (λ xs. get_or c.raise_row.new.row t false ≡ (get_or xs t false || ((nat_eq c.loop-s.s c.args.lower || get_or xs c.args.lower false) && get_or c.args.above.now t false)))
    c.deref_mut.ensures.value (c.raise_row.ensures t high))
