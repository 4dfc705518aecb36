use Rattle.std.proofs.Common.{arith}
use Rattle.npa_subsume.proofs.Kept.{kinds_fit}
use Rattle.npa_subsume.proofs.early.have_kinds.Goals as goal

pub returns-then-count_kind : goal.returns-then-count_kind
returns-then-count_kind c _ at sent =
    let fit = kinds_fit c.args.ps.now c.args.qs.now at c.p-item.result.strand c.p-item.result.bar sent in
    omega (arith, fit, c.count_kind.ensures, c.count_kind-in-loop-p.ensures, c.if-count_kind.true)
