use Rattle.std.proofs.Common.{◌≡◌, Err, refl, ap, sym, subst, ◌∙◌}
use Rattle.npa_sig.specs.declared.protocol.Protocol.{Protocol}
use Rattle.npa_sorts.specs.Subsorts.{Subsorts}
use Rattle.npa_sets.specs.Told.{GivesUnifiers}
use Rattle.npa_moves.specs.Steps.{solve_over}
use Rattle.npa_back.proofs.ToldSets.{err_unifiers}
use Rattle.npa_back.proofs.learning.identities.Goals as goal

sorts_are : (p q : Protocol) → p ≡ q → p.sig.sorts ≡ q.sig.sorts
sorts_are p q is = ap (λ (x : Protocol). x.sig.sorts) is

pub returns-in-Ok : goal.returns-in-Ok
returns-in-Ok c =
    let n = c.args.narrowing.now in
    sym (ap (λ (o : Subsorts). solve_over o n.next c.new.result) (c.sorts-sorts.ensures ∙ sorts_are c.protocol.result.now n.ready.now c.protocol.ensures) ∙ ap (solve_over n.ready.now.sig.sorts n.next) c.new.ensures) ∙ c.in-Ok.ensures

pub returns : goal.returns
returns c =
    let n = c.args.narrowing.now in
    err_unifiers (Err c.in-Err.fail) _ c.in-Err.fail c.args.at c.as_fail.result refl c.as_fail.ensures
    (subst (λ ps. GivesUnifiers (Err c.in-Err.fail) (solve_over n.ready.now.sig.sorts n.next ps)) c.new.ensures
    (subst (λ (o : Subsorts). GivesUnifiers (Err c.in-Err.fail) (solve_over o n.next c.new.result)) (c.sorts-sorts.ensures ∙ sorts_are c.protocol.result.now n.ready.now c.protocol.ensures) c.in-Err.ensures))
