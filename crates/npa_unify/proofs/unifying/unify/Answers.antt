use Rattle.std.proofs.Common.{Ok, sym, ◌∙◌, ap, subst}
use Rattle.npa_unify.specs.Answers.{judged}
use Rattle.npa_unify.specs.Seen.{NoneEquates, seen_all}
use Rattle.npa_unify.specs.Unifiers.{IsAnswer}
use Rattle.npa_unify.proofs.Deciding.{none_complete, none_listed}
use Rattle.npa_unify.proofs.Judging.{answers_all, complete_all, started_all}
use Rattle.npa_unify.proofs.Members.{all_from}
use Rattle.npa_unify.proofs.Outcomes.{if_ok}
use Rattle.npa_unify.proofs.unifying.unify.Goals as goal

pub returns-clause-answers : goal.returns-clause-answers
returns-clause-answers c =
    let all = started_all c.args.sorts.now c.args.pairs.now c.args.next (seen_all c.in_ok-waiting.waiting.items) c.in_ok-waiting.ensures.all in
    if_ok c.collect.result (λ ss e. all_from (IsAnswer c.args.sorts.now c.args.pairs.now c.args.next) ss (answers_all c.args.sorts.now c.args.pairs.now c.args.next ss c.requires.low c.requires.one (ap judged (sym all) ∙ e))) c.collect.ensures.list

pub returns-clause-complete : goal.returns-clause-complete
returns-clause-complete c =
    let all = started_all c.args.sorts.now c.args.pairs.now c.args.next (seen_all c.in_ok-waiting.waiting.items) c.in_ok-waiting.ensures.all in
    if_ok c.collect.result (λ ss e. complete_all c.args.sorts.now c.args.pairs.now c.args.next ss c.pairs.ensures.sorts c.laws.ensures.acyclic c.requires.low (ap judged (sym all) ∙ e)) c.collect.ensures.list

pub returns-then-some_clash-clause-list : goal.returns-then-some_clash-clause-list
returns-then-some_clash-clause-list c =
    let none : NoneEquates c.args.pairs.now = subst NoneEquates c.as_slice.ensures (c.some_clash.ensures c.if-some_clash.true) in
    none_listed c.args.sorts.now c.args.pairs.now c.args.next c.pairs.ensures.sorts c.laws.ensures.acyclic c.requires.low none ∙ ap Ok (sym c.new.ensures)

pub returns-then-some_clash-clause-complete : goal.returns-then-some_clash-clause-complete
returns-then-some_clash-clause-complete c =
    none_complete c.args.sorts.now c.args.pairs.now c.args.next c.new.result (subst NoneEquates c.as_slice.ensures (c.some_clash.ensures c.if-some_clash.true))
