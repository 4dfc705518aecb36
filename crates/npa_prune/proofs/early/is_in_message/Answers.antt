use Rattle.std.proofs.Common.{List, sym, subst, arith}
use Rattle.npa_term.specs.declared.term.Term.{Term}
use Rattle.npa_model.specs.declared.pattern.PStrand.{PStrand}
use Rattle.npa_model.proofs.Comparing.{denied}
use Rattle.npa_prune.specs.Pruned.{IsPartOfOne}
use Rattle.npa_prune.proofs.Searching.{none_more, none_found, told_false}
use Rattle.npa_prune.proofs.early.is_in_message.Goals as goal

pub loop-p-preserved : goal.loop-p-preserved
loop-p-preserved c =
    none_more (λ (p : PStrand). IsPartOfOne p.msgs c.args.t.now) c.args.strands.now c.loop-p.p-index c.p-item.result (omega (arith, c.loop-p-test.true)) c.p-item.is
    (λ one. denied c.have_part.result c.have_part.ensures c.if-have_part.false (subst (λ (ts : List Term). IsPartOfOne ts c.args.t.now) (sym c.as_slice.ensures) one))
    c.loop-p.invariant

pub returns : goal.returns
returns c = told_false (none_found (λ (p : PStrand). IsPartOfOne p.msgs c.args.t.now) c.args.strands.now c.loop-p.p-index (omega (arith, c.loop-p-test.false)) c.loop-p.invariant)
