use Rattle.npa_moves.specs.Moves.{each_with}
use Rattle.npa_moves.specs.Steps.{Gives}
use Rattle.npa_back.specs.Told.{rule_of}
use Rattle.std.proofs.Common.{Err, List as ListOf, subst, ap, sym, ◌∙◌}
use Rattle.std.proofs.lemmas.Result.{err_from_is_err_and}
use Rattle.npa_back.proofs.Following.{handed}
use Rattle.npa_drafts.specs.declared.numbering.Numbered.{Numbered}
use Rattle.npa_drafts.specs.Drafts.{results_of}
use Rattle.npa_back.proofs.ToldSets.{results_go, results_stop}
use Rattle.npa_back.proofs.results.add_results.Goals as goal

-- src/results.rt:44:19
pub returns-in_err-results : goal.returns-in_err-results
returns-in_err-results c =
    let n = c.args.narrowing.now in
    let by_ = c.args.by.now in
    let e = err_from_is_err_and c.from_residual.result c.from_residual.ensures.1 in
    let told = subst (λ at. Gives {A = ListOf Numbered} (Err c.in_err-results.field-0.0) (results_of n.vars.now by_.from.now (each_with by_.message.now by_.unknown.now) at c.args.unifiers.now)) c.len-at.ensures c.in_err-results.ensures in
    handed c.from_residual.result e.0 c.in_err-results.field-0.0 _ e.1 e.2
    (results_stop (rule_of by_.kind by_.places.now) n.vars.now by_.from.now (each_with by_.message.now by_.unknown.now) c.args.made c.args.unifiers.now c.in_err-results.field-0.0 told)

-- src/results.rt:29:1
pub returns : goal.returns
returns c =
    let n = c.args.narrowing.now in
    let by_ = c.args.by.now in
    let apart = each_with by_.message.now by_.unknown.now in
    results_go (rule_of by_.kind by_.places.now) n.vars.now by_.from.now apart c.args.made c.in_ok-add_all.field-0 c.args.unifiers.now c.in_ok-results.results
    (sym (ap (λ at. results_of n.vars.now by_.from.now apart at c.args.unifiers.now) c.len-at.ensures) ∙ c.in_ok-results.ensures) c.in_ok-add_all.ensures
