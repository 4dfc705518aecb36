use Rattle.std.proofs.Common.{◌≡◌, sym, ◌∙◌}
use Rattle.npa_syntax.specs.Nodes.{children_of}
use Rattle.npa_text.proofs.RawLaws.{term_next, others_next}
use Rattle.npa_text.proofs.raws.+push_terms.Goals as goal
use Rattle.npa_text.proofs.raws.+push_terms.Goals.{then-is_term+in_ok-push_terms+in_ok-push, else-is_term+in_ok-push_terms-2}

pub loop-node-preserved : goal.loop-node-preserved
loop-node-preserved t c =
    elim c.if-is_term.branch [
      | then-is_term+in_ok-push_terms+in_ok-push w ↦
          let kids : w.as_slice.result.now ≡ children_of c.node-item.result = w.as_slice.ensures in
          term_next c.args.tokens.now c.args.nodes.now c.loop-node.node-index c.node-item.result c.loop-node.terms c.if-is_term.terms _ w.token_at.result _ w.new-args.result w.as_slice.result.now
          c.loop-node-test.true c.node-item.is c.loop-node.invariant (sym c.is_term.ensures ∙ w.if-is_term.true)
          w.token_at.ensures w.new-args.ensures kids w.in_ok-push_terms.ensures (w.terms-is ∙ w.in_ok-push.ensures.ok)
      | else-is_term+in_ok-push_terms-2 w ↦
          let kids : w.as_slice-else-is_term.result.now ≡ children_of c.node-item.result = w.as_slice-else-is_term.ensures in
          others_next c.args.tokens.now c.args.nodes.now c.loop-node.node-index c.node-item.result c.loop-node.terms c.if-is_term.terms _ w.as_slice-else-is_term.result.now
          c.loop-node-test.true c.node-item.is c.loop-node.invariant (sym c.is_term.ensures ∙ w.if-is_term.false)
          kids (w.terms-is ∙ w.in_ok-push_terms-2.ensures)
    ]
