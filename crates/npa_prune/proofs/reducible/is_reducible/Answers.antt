use Rattle.std.proofs.Common.{sym, subst}
use Rattle.npa_model.proofs.Comparing.{denied}
use Rattle.npa_prune.specs.Pruned.{HasReducible}
use Rattle.npa_prune.proofs.Reducing.{HasIn, of_strands, of_unknown_facts, left_unknown}
use Rattle.npa_prune.proofs.Searching.{HasOne, told_true, told_ok}
use Rattle.npa_prune.proofs.reducible.is_reducible.Goals as goal

pub returns-then-branch : goal.returns-then-branch
returns-then-branch c =
    told_true (of_strands c.args.th.now c.args.p.now
    (subst (HasOne (HasIn c.args.th.now)) c.as_slice.ensures (c.in_ok-is_strand_reducible.ensures.0 c.if-branch.true)))

pub returns : goal.returns
returns c =
    let th = c.args.th.now in
    let g = c.args.p.now in
    told_ok c.has_reducible-2.result c.has_reducible-2.ensures
    (λ has. of_unknown_facts th g (subst (HasReducible th) c.as_slice-3.ensures has))
    (λ r. subst (HasReducible th) (sym c.as_slice-3.ensures) (left_unknown th g
    (λ s. denied c.in_ok-is_strand_reducible.field-0 c.in_ok-is_strand_reducible.ensures c.if-branch.false (subst (HasOne (HasIn th)) (sym c.as_slice.ensures) s))
    (λ k. denied c.in_ok-has_reducible.field-0 c.in_ok-has_reducible.ensures c.if-branch-2.false (subst (HasReducible th) (sym c.as_slice-2.ensures) k)) r))
