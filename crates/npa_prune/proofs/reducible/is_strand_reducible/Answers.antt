use Rattle.std.proofs.Common.{inr, ⊎_elim, sym, subst, arith}
use Rattle.npa_model.proofs.Comparing.{denied}
use Rattle.npa_prune.specs.Pruned.{HasReducible}
use Rattle.npa_prune.proofs.Reducing.{HasIn}
use Rattle.npa_prune.proofs.Searching.{one_found, none_more, none_found, told_true, told_false}
use Rattle.npa_prune.proofs.reducible.is_strand_reducible.Goals as goal

pub returns-then-branch-2 : goal.returns-then-branch-2
returns-then-branch-2 c =
    told_true (one_found (HasIn c.args.th.now) c.args.strands.now c.loop-p.p-index c.p-item.result (omega (arith, c.loop-p-test.true)) c.p-item.is
    (inr (subst (HasReducible c.args.th.now) c.as_slice-in-loop-p.ensures (c.in_ok-has_reducible-2.ensures.0 c.if-branch-2.true))))

pub loop-p-preserved : goal.loop-p-preserved
loop-p-preserved c =
    let th = c.args.th.now in
    none_more (HasIn th) c.args.strands.now c.loop-p.p-index c.p-item.result (omega (arith, c.loop-p-test.true)) c.p-item.is
    (λ has. ⊎_elim
    (λ (a : HasReducible th c.p-item.result.args). denied c.in_ok-has_reducible.field-0 c.in_ok-has_reducible.ensures c.if-branch.false (subst (HasReducible th) (sym c.as_slice.ensures) a))
    (λ (m : HasReducible th c.p-item.result.msgs). denied c.in_ok-has_reducible-2.field-0 c.in_ok-has_reducible-2.ensures c.if-branch-2.false (subst (HasReducible th) (sym c.as_slice-in-loop-p.ensures) m))
    has)
    c.loop-p.invariant

pub returns : goal.returns
returns c = told_false (none_found (HasIn c.args.th.now) c.args.strands.now c.loop-p.p-index (omega (arith, c.loop-p-test.false)) c.loop-p.invariant)
