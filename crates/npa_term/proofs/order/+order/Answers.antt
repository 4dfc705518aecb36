use Rattle.std.proofs.Common.{◌≡◌, min, length, sym, ◌∙◌, arith}
use Rattle.npa_term.proofs.Rows.{cmp_tied, cmp_ends}
use Rattle.npa_term.proofs.order.+order.Goals as goal

pub cmp-returns-in-Equal : goal.cmp-returns-in-Equal
cmp-returns-in-Equal t c =
    let tied = cmp_tied _ _ c.in-App-App.f c.in-App-App.g c.in-App-App.ts c.in-App-App.us _ c.in-App-App.is-0 c.in-App-App.is-1 c.cmp-in-App-App.ensures c.in-Equal.is in
    cc

pub cmp_all-returns : goal.cmp_all-returns
cmp_all-returns t c =
    let ended : c.loop-i.i ≡ min (length c.args.a.now) (length c.args.b.now) = omega (arith, c.min-i-end.ensures) in
    c.cmp.ensures ∙ sym (cmp_ends c.loop-i.i c.args.a.now c.args.b.now ended) ∙ c.loop-i.invariant
