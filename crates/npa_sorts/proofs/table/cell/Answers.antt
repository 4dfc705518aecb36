use Rattle.std.proofs.Common.{◌≡◌, ◌<◌, false, length, sym, ◌∙◌, vec_len, arith}
use Rattle.std.proofs.lemmas.List.{get_or_default}
use Rattle.npa_sorts.proofs.TableLemmas.{row_long, entry_at}
use Rattle.npa_sorts.proofs.table.cell.Goals as goal

pub index-requires : goal.index-requires
index-requires c = omega (arith, row_long (length c.args.table.now) c.args.table.now c.args.s c.index-table-s.result c.requires.square c.requires.row c.index-table-s.is)

pub returns : goal.returns
returns c =
    let v = c.index-table-s.result in
    let long : vec_len v ≡ length c.args.table.now = row_long (length c.args.table.now) c.args.table.now c.args.s v c.requires.square c.requires.row c.index-table-s.is in
    let small : c.args.t < length v.items = omega (arith, c.requires.column, long, v.ok.0) in
    c.index.ensures ∙ get_or_default v.items c.args.t c.index.result.now false small ∙ sym (entry_at c.args.table.now c.args.s c.args.t v v c.requires.row c.index-table-s.is)
