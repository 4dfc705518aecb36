use Rattle.std.proofs.Common.{List, sym, subst}
use Rattle.npa_term.specs.declared.term.Term.{Term}
use Rattle.npa_model.proofs.Comparing.{denied}
use Rattle.npa_prune.specs.Pruned.{IsPartOfOne}
use Rattle.npa_prune.proofs.Hearing.{IsInMessage, heard_message, left_message}
use Rattle.npa_prune.proofs.Searching.{HasOne, told_as}
use Rattle.npa_prune.proofs.early.is_heard.Goals as goal

pub returns-else-have_part : goal.returns-else-have_part
returns-else-have_part c =
    let g = c.args.g.now in
    let t = c.args.t.now in
    told_as c.is_in_message.result c.is_in_message.ensures
    (λ one. heard_message g t (subst (HasOne (IsInMessage g t)) c.as_slice-else-have_part.ensures one))
    (λ heard. subst (HasOne (IsInMessage g t)) (sym c.as_slice-else-have_part.ensures)
    (left_message g t (λ one. denied c.have_part.result c.have_part.ensures c.if-have_part.false (subst (λ (ts : List Term). IsPartOfOne ts t) (sym c.as_slice.ensures) one)) heard))
