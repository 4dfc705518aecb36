use Rattle.std.proofs.Common.{List, Contains, sym, subst, arith}
use Rattle.npa_term.specs.declared.term.Term.{Term}
use Rattle.npa_model.specs.Covering.{HasSame}
use Rattle.npa_model.proofs.Comparing.{denied}
use Rattle.npa_prune.proofs.Searching.{none_more, none_found, told_false}
use Rattle.npa_prune.proofs.pruning.clashes.Goals as goal

pub loop-fact-preserved : goal.loop-fact-preserved
loop-fact-preserved c =
    none_more (HasSame c.args.p.now.unknown) c.as_slice-fact-items.result.now c.loop-fact.fact-index c.fact-item.result (omega (arith, c.loop-fact-test.true)) c.fact-item.is
    (λ has. denied c.has_same.result c.has_same.ensures c.if-has_same.false (subst (λ (ts : List Term). HasSame ts c.fact-item.result) (sym c.as_slice.ensures) has))
    c.loop-fact.invariant

pub returns : goal.returns
returns c = told_false (λ clash.
    none_found (HasSame c.args.p.now.unknown) c.as_slice-fact-items.result.now c.loop-fact.fact-index (omega (arith, c.loop-fact-test.false)) c.loop-fact.invariant
    (clash.fact, subst (λ (ts : List Term). Contains ts clash.fact) (sym c.as_slice-fact-items.ensures) clash.known, clash.unknown))
