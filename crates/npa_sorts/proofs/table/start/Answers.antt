use Rattle.std.proofs.Common.{◌≡◌, ◌+◌, ◌∙◌, arith}
use Rattle.npa_sorts.proofs.TableLemmas.{bare_table, length-rows_of}
use Rattle.npa_sorts.proofs.table.start.Goals as goal

pub returns : goal.returns
returns c =
    let ended : c.loop-s.s ≡ c.args.declared + 2 = omega (arith, c.loop-s-test.false, c.loop-s.auto.s-end) in
    bare_table c.args.declared _ (length-rows_of _ ∙ c.loop-s.invariant.long ∙ ended) (λ x small. c.loop-s.invariant.built x (omega (arith, small, ended)))
