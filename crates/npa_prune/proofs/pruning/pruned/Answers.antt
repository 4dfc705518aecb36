use Rattle.std.proofs.Common.{subst}
use Rattle.npa_sig.specs.declared.protocol.Protocol.{Protocol}
use Rattle.npa_rewrite.specs.declared.theory.Theory.{Theory}
use Rattle.npa_model.proofs.Comparing.{denied}
use Rattle.npa_prune.specs.Pruned.{IsReducible, IsEarly, SharesFresh}
use Rattle.npa_prune.proofs.Ranking.{first_shared, first_early, none_prunes}
use Rattle.npa_prune.proofs.pruning.pruned.Goals as goal

pub returns-then-branch-2 : goal.returns-then-branch-2
returns-then-branch-2 c =
    let g = c.args.p.now in
    first_shared c.args.ready.now g
    (subst (λ (th : Theory). IsReducible th g → ⊥) c.theory.ensures (denied c.in_ok-is_reducible.field-0 c.in_ok-is_reducible.ensures c.if-branch.false))
    (denied c.clashes.result c.clashes.ensures c.if-clashes.false)
    (subst (λ (protocol : Protocol). SharesFresh protocol.strands g) c.protocol.ensures (c.in_ok-shares_fresh.ensures.0 c.if-branch-2.true))

pub returns-then-is_early : goal.returns-then-is_early
returns-then-is_early c =
    let g = c.args.p.now in
    first_early c.args.ready.now g
    (subst (λ (th : Theory). IsReducible th g → ⊥) c.theory.ensures (denied c.in_ok-is_reducible.field-0 c.in_ok-is_reducible.ensures c.if-branch.false))
    (denied c.clashes.result c.clashes.ensures c.if-clashes.false)
    (subst (λ (protocol : Protocol). SharesFresh protocol.strands g → ⊥) c.protocol.ensures (denied c.in_ok-shares_fresh.field-0 c.in_ok-shares_fresh.ensures c.if-branch-2.false))
    (subst (λ (protocol : Protocol). IsEarly protocol.strands g) c.protocol-2.ensures (c.is_early.ensures.0 c.if-is_early.true))

pub returns : goal.returns
returns c =
    let g = c.args.p.now in
    none_prunes c.args.ready.now g
    (subst (λ (th : Theory). IsReducible th g → ⊥) c.theory.ensures (denied c.in_ok-is_reducible.field-0 c.in_ok-is_reducible.ensures c.if-branch.false))
    (denied c.clashes.result c.clashes.ensures c.if-clashes.false)
    (subst (λ (protocol : Protocol). SharesFresh protocol.strands g → ⊥) c.protocol.ensures (denied c.in_ok-shares_fresh.field-0 c.in_ok-shares_fresh.ensures c.if-branch-2.false))
    (subst (λ (protocol : Protocol). IsEarly protocol.strands g → ⊥) c.protocol-2.ensures (denied c.is_early.result c.is_early.ensures c.if-is_early.false))
