use Rattle.std.proofs.Common.{◌≡◌, ◌<◌, None, Some, length, get_or, take, flat_map, ap, ◌∙◌, subst, arith, rules}
use Rattle.std.specs.Prelude.{◌↔◌}
use Rattle.std.proofs.lemmas.List.{take_all}
use Rattle.npa_term.specs.Symbols.{symbol_count}
use Rattle.npa_term.proofs.Rows.{count_argument}
use Rattle.npa_rewrite.specs.Accepted.{IsAcceptedTerm}
use Rattle.npa_rewrite.proofs.Walk.{where_ok}
use Rattle.npa_accept.specs.Parts.{parts}
use Rattle.npa_accept.specs.Unaccepted.{IsAtRoot, IsFirst}
use Rattle.npa_accept.proofs.Firsts.{app_argument, app_none, app_root, argument_step, name_first, none_exactly}
use Rattle.npa_accept.proofs.Own.{argument_fit}
use Rattle.npa_accept.proofs.accepted.+first_unaccepted.Goals as goal

pub returns-in-Some-clause-none : goal.returns-in-Some-clause-none
returns-in-Some-clause-none t c =
    let th = c.args.th.now in
    let root : IsAtRoot th c.args.t.now (Some c.in-Some.found) = subst (IsAtRoot th c.args.t.now) c.in-Some.is c.in_ok-found-in-App.ensures in
    none_exactly th c.args.t.now (Some c.in-Some.found) (app_root th c.args.t.now c.in-App.field-0 c.in-App.args c.in-Some.found c.in-App.is root)

pub first_unaccepted-requires : goal.first_unaccepted-requires
first_unaccepted-requires t c =
    let ts = c.in-App.args in
    let small : c.loop-arg.arg-index < length ts = omega (arith, c.loop-arg-test.true, ap length c.as_slice-arg-items.ensures) in
    let is : c.arg-item.result ≡ get_or ts c.loop-arg.arg-index c.arg-item.result = c.arg-item.is ∙ ap (λ us. get_or us c.loop-arg.arg-index c.arg-item.result) c.as_slice-arg-items.ensures in
    let fewer : symbol_count c.arg-item.result < symbol_count c.args.t.now = count_argument c.args.t.now c.in-App.field-0 ts c.loop-arg.arg-index c.arg-item.result c.in-App.is small is in
    let fit = argument_fit c.args.th.now.sig c.args.next c.args.t.now c.in-App.field-0 ts c.loop-arg.arg-index c.arg-item.result c.in-App.is small is c.requires.term in
    (search rules, (c.requires.formed, (c.requires.plain, (c.requires.few, (fit, c.requires.room)))))

pub returns-in-Name-clause-first : goal.returns-in-Name-clause-first
returns-in-Name-clause-first t c =
    let th = c.args.th.now in
    where_ok (IsAtRoot th c.args.t.now) (IsFirst th (parts c.args.t.now)) (λ o at. name_first th c.args.t.now c.in-Name.field-0 o c.in-Name.is at) c.at_root.result c.at_root.ensures

pub returns-in-Name-clause-none : goal.returns-in-Name-clause-none
returns-in-Name-clause-none t c =
    let th = c.args.th.now in
    where_ok (IsAtRoot th c.args.t.now) (λ o. o ≡ None ↔ IsAcceptedTerm th c.args.t.now)
    (λ o at. none_exactly th c.args.t.now o (name_first th c.args.t.now c.in-Name.field-0 o c.in-Name.is at)) c.at_root.result c.at_root.ensures

pub returns-in-Some-2-clause-first : goal.returns-in-Some-2-clause-first
returns-in-Some-2-clause-first t c =
    let th = c.args.th.now in
    let ts = c.in-App.args in
    let i = c.loop-arg.arg-index in
    let small : i < length ts = omega (arith, c.loop-arg-test.true, ap length c.as_slice-arg-items.ensures) in
    let is : c.arg-item.result ≡ get_or ts i c.arg-item.result = c.arg-item.is ∙ ap (λ us. get_or us i c.arg-item.result) c.as_slice-arg-items.ensures in
    let root : IsAtRoot th c.args.t.now None = subst (IsAtRoot th c.args.t.now) c.in_default.is c.in_ok-found-in-App.ensures in
    let before : IsFirst th (flat_map parts (take i ts)) None = subst (λ us. IsFirst th (flat_map parts (take i us)) None) c.as_slice-arg-items.ensures c.loop-arg.invariant in
    let first : IsFirst th (parts c.arg-item.result) (Some c.in-Some-2.found) = subst (IsFirst th (parts c.arg-item.result)) c.in-Some-2.is c.in_ok-found-in-App-2.ensures.first in
    app_argument th c.args.t.now c.in-App.field-0 ts i c.arg-item.result c.in-Some-2.found c.in-App.is small is root before first

pub returns-in-Some-2-clause-none : goal.returns-in-Some-2-clause-none
returns-in-Some-2-clause-none t c = none_exactly c.args.th.now c.args.t.now (Some c.in-Some-2.found) (returns-in-Some-2-clause-first t c)

pub loop-arg-preserved : goal.loop-arg-preserved
loop-arg-preserved t c =
    let th = c.args.th.now in
    let none : IsFirst th (parts c.arg-item.result) None = subst (IsFirst th (parts c.arg-item.result)) c.in_default-2.is c.in_ok-found-in-App-2.ensures.first in
    argument_step th c.as_slice-arg-items.result.now c.loop-arg.arg-index c.arg-item.result c.loop-arg-test.true c.arg-item.is c.loop-arg.invariant none

pub returns-after-loop-arg-clause-first : goal.returns-after-loop-arg-clause-first
returns-after-loop-arg-clause-first t c =
    let th = c.args.th.now in
    let ts = c.as_slice-arg-items.result.now in
    let all : take c.loop-arg.arg-index ts ≡ ts = take_all c.loop-arg.arg-index ts (omega (arith, c.loop-arg-test.false)) in
    let whole : take c.loop-arg.arg-index ts ≡ c.in-App.args = all ∙ c.as_slice-arg-items.ensures in
    let root : IsAtRoot th c.args.t.now None = subst (IsAtRoot th c.args.t.now) c.in_default.is c.in_ok-found-in-App.ensures in
    let none : IsFirst th (flat_map parts c.in-App.args) None = subst (λ us. IsFirst th (flat_map parts us) None) whole c.loop-arg.invariant in
    app_none th c.args.t.now c.in-App.field-0 c.in-App.args c.in-App.is root none

pub returns-after-loop-arg-clause-none : goal.returns-after-loop-arg-clause-none
returns-after-loop-arg-clause-none t c = none_exactly c.args.th.now c.args.t.now None (returns-after-loop-arg-clause-first t c)
