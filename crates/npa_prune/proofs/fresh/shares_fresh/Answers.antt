use Rattle.std.proofs.Common.{true, List, ◌∙◌, ap, arith}
use Rattle.std.specs.List.{flat_map}
use Rattle.std.proofs.lemmas.List.{drop_all}
use Rattle.npa_model.specs.declared.pattern.PStrand.{PStrand}
use Rattle.npa_prune.specs.Pruned.{fresh_args}
use Rattle.npa_prune.specs.Repeating.{repeats}
use Rattle.npa_prune.proofs.Repeated.{repeats_exactly, repeats_here}
use Rattle.npa_prune.proofs.fresh.shares_fresh.Goals as goal

pub returns-then-branch : goal.returns-then-branch
returns-then-branch c =
    let strands = c.args.protocol.now.strands in
    repeats_exactly strands c.args.p.now true
    (c.loop-strand.invariant
    ∙ repeats_here (fresh_args strands) c.as_slice-strand-items.result.now c.loop-strand.strand-index c.strand-item.result c.loop-strand.seen c.repeats.new.seen c.fresh_args.result.now c.in_ok-repeats.field-0
    (omega (arith, c.loop-strand-test.true)) c.strand-item.is c.fresh_args.ensures c.in_ok-repeats.ensures c.if-branch.true)

pub returns : goal.returns
returns c =
    let strands = c.args.protocol.now.strands in
    repeats_exactly strands c.args.p.now _
    (c.loop-strand.invariant
    ∙ ap (λ (ps : List PStrand). repeats c.loop-strand.seen (flat_map (fresh_args strands) ps))
    (drop_all c.loop-strand.strand-index c.as_slice-strand-items.result.now (omega (arith, c.loop-strand-test.false))))
