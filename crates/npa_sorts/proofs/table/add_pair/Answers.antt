use Rattle.std.proofs.Common.{◌≡◌, true, length, set, vec_len, ap, subst, sym, ◌∙◌, arith}
use Rattle.std.proofs.lemmas.List.{length-set}
use Rattle.npa_sorts.specs.Table.{rows_of, entry, IsSquare}
use Rattle.npa_sorts.proofs.TableLemmas.{row_long, known, added}
use Rattle.npa_sorts.proofs.table.add_pair.Goals as goal

pub returns-then-cell : goal.returns-then-cell
returns-then-cell c =
    let marked : entry (rows_of c.args.table.now.items) c.args.lower c.args.upper ≡ true =
    ap (λ vs. entry (rows_of vs) c.args.lower c.args.upper) (sym c.deref.ensures.value) ∙ sym c.cell.ensures ∙ c.if-cell.true in
    known c.args.table.now.items c.args.lower c.args.upper c.requires.lower c.requires.upper marked

pub at_or_above-requires : goal.at_or_above-requires
at_or_above-requires c =
    let long : vec_len c.index.result.now ≡ length c.args.table.now.items =
    row_long (length c.args.table.now.items) c.args.table.now.items c.args.upper c.index.result.now c.requires.square c.requires.upper c.index.ensures in
    omega (arith, c.deref-2.ensures.len, long, c.requires.upper)

pub raise-requires : goal.raise-requires
raise-requires c =
    let long : length c.deref-3.result.now ≡ length c.args.table.now.items =
    ap length c.deref-3.ensures.value ∙ ap length c.in_ok-above.ensures ∙ length-set c.deref-2.result.now c.args.upper true ∙ c.deref-2.ensures.len
    ∙ row_long (length c.args.table.now.items) c.args.table.now.items c.args.upper c.index.result.now c.requires.square c.requires.upper c.index.ensures in
    record { square = subst (λ n. IsSquare n (rows_of c.args.table.now.items)) (sym long) c.requires.square; within = omega (arith, long, c.requires.lower) }

pub returns : goal.returns
returns c =
    added c.args.table.now.items c.raise.new.table.items c.args.lower c.args.upper c.deref-3.result.now c.index.result.now c.requires.square c.requires.lower c.requires.upper c.index.ensures
    (c.deref-3.ensures.value ∙ c.in_ok-above.ensures ∙ ap (λ xs. set xs c.args.upper true) c.deref-2.ensures.value) c.raise.ensures.square c.raise.ensures.raised
