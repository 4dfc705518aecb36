use Rattle.std.proofs.Common.{◌+◌, sym, subst}
use Rattle.npa_moves.specs.Moves.{each_with}
use Rattle.npa_drafts.specs.Drafts.{results_of}
use Rattle.npa_drafts.proofs.Adding.{GoesOn, left_out, one_added}
use Rattle.npa_drafts.proofs.results.results_by.Goals.{then-branch+in_ok-made, else-branch}
use Rattle.npa_drafts.proofs.results.results_by.Goals as goal

pub loop-s-preserved : goal.loop-s-preserved
loop-s-preserved c =
    let vs = c.args.vars.now in
    let from = c.args.from.now in
    let apart = each_with c.args.message.now c.args.unknown.now in
    let ss = c.args.unifiers.now in
    let whole = results_of vs from apart c.args.at ss in
    let on : GoesOn vs from apart c.args.at c.loop-s.s-index ss c.loop-s.made whole = record { few = c.loop-s.invariant.few; results = c.loop-s.invariant.results } in
    let next : GoesOn vs from apart c.args.at (c.loop-s.s-index + 1) ss c.if-branch.made whole = elim c.if-branch.branch [
      | then-branch+in_ok-made w ↦ subst (λ xs. GoesOn vs from apart c.args.at (c.loop-s.s-index + 1) ss xs whole) (sym w.made-is)
          (one_added vs from apart c.args.at c.loop-s.s-index ss c.s-item.result c.loop-s.made w.in_ok-made.made whole c.loop-s-test.true c.s-item.is c.in_ok-keeps_apart.ensures w.if-branch.true w.in_ok-made.ensures on)
      | else-branch w ↦ subst (λ xs. GoesOn vs from apart c.args.at (c.loop-s.s-index + 1) ss xs whole) (sym w.made-is)
          (left_out vs from apart c.args.at c.loop-s.s-index ss c.s-item.result c.loop-s.made whole c.loop-s-test.true c.s-item.is c.in_ok-keeps_apart.ensures w.if-branch.false on)
    ] in
    record { few = next.few; results = next.results }
