use Rattle.std.proofs.Common.{List, Contains, sym, subst, arith}
use Rattle.npa_model.specs.declared.pattern.PStrand.{PStrand}
use Rattle.npa_model.proofs.Comparing.{denied}
use Rattle.npa_prune.proofs.Owning.{IsOneHeard, OwnsEarly}
use Rattle.npa_prune.proofs.Searching.{none_more, none_found, told_false}
use Rattle.npa_prune.proofs.early.is_early.Goals.{else-is_silent-via-then-is_silent+else-is_one_heard, else-is_silent-via-else-is_silent}
use Rattle.npa_prune.proofs.early.is_early.Goals as goal

pub loop-p-preserved : goal.loop-p-preserved
loop-p-preserved c =
    none_more (OwnsEarly c.args.protocol.now.strands c.args.g.now) c.as_slice-p-items.result.now c.loop-p.p-index c.p-item.result (omega (arith, c.loop-p-test.true)) c.p-item.is
    (λ owns. elim c.else-is_silent.branch [
      | else-is_silent-via-then-is_silent+else-is_one_heard w ↦
          denied w.is_one_heard.result w.is_one_heard.ensures w.if-is_one_heard.false (subst (IsOneHeard c.args.g.now) (sym w.fresh_args.ensures) owns.1)
      | else-is_silent-via-else-is_silent w ↦ denied c.is_silent.result c.is_silent.ensures w.if-is_silent.false owns.0
    ])
    c.loop-p.invariant

pub returns : goal.returns
returns c = told_false (λ early.
    none_found (OwnsEarly c.args.protocol.now.strands c.args.g.now) c.as_slice-p-items.result.now c.loop-p.p-index (omega (arith, c.loop-p-test.false)) c.loop-p.invariant
    (early.owner, subst (λ (ps : List PStrand). Contains ps early.owner) (sym c.as_slice-p-items.ensures) early.there, (early.silent, (early.value, early.fresh, early.heard))))
