use Rattle.std.proofs.Common.{[]}
use Rattle.npa_moves.specs.Lists.{each_place, send_problems, strand_problems}
use Rattle.npa_moves.specs.Steps.{Gives, found_variants, solve_over}
use Rattle.npa_back.specs.Behind.{all_behind}
use Rattle.std.proofs.Common.{Err, List as ListOf, sym, ◌∙◌, ap, subst}
use Rattle.std.proofs.lemmas.Result.{err_from_is_err_and}
use Rattle.npa_moves.specs.declared.step.Step.{Step}
use Rattle.npa_back.specs.Behind.{and_then}
use Rattle.npa_back.proofs.Following.{all_both, handed, stops}
use Rattle.npa_back.proofs.backward.all_others.Goals as goal

-- src/backward.rt:56:16
pub returns-in_err-made : goal.returns-in_err-made
returns-in_err-made c =
    let n = c.args.narrowing.now in
    let others = each_place (strand_problems (found_variants n.ready.now) n.pattern.now) 0 n.ready.now.strands in
    let own = each_place (send_problems n.ready.now.strands n.pattern.now) 0 n.pattern.now.strands in
    let e = err_from_is_err_and c.from_residual.result c.from_residual.ensures.1 in
    handed c.from_residual.result e.0 c.in_err-made.field-0.0 _ e.1 e.2
    (subst (Gives {A = ListOf Step} (Err c.in_err-made.field-0.0)) (sym (all_both (solve_over n.ready.now.sig.sorts) n.vars.now [] own others))
    (stops c.in_err-made.field-0.0 (all_behind (solve_over n.ready.now.sig.sorts) n.vars.now [] own) (λ m. all_behind (solve_over n.ready.now.sig.sorts) n.vars.now m others) c.in_err-made.ensures))

-- src/backward.rt:50:1
pub returns : goal.returns
returns c =
    let n = c.args.narrowing.now in
    let others = each_place (strand_problems (found_variants n.ready.now) n.pattern.now) 0 n.ready.now.strands in
    let own = each_place (send_problems n.ready.now.strands n.pattern.now) 0 n.pattern.now.strands in
    subst (Gives c.add_introduced.result) (sym (all_both (solve_over n.ready.now.sig.sorts) n.vars.now [] own others
    ∙ ap (λ r. and_then r (λ m. all_behind (solve_over n.ready.now.sig.sorts) n.vars.now m others)) c.in_ok-made.ensures)) c.add_introduced.ensures
