use Rattle.std.proofs.Common.{sym, arith}
use Rattle.std.proofs.Common.{map, subst}
use Rattle.npa_term.specs.Bound.{applied}
use Rattle.npa_term.specs.Same.{SameAll}
use Rattle.npa_unify.proofs.Clashing.{application_and_name, arguments_differ, differ_somewhere, name_and_application, names_differ, operators_differ}
use Rattle.npa_unify.proofs.clashes.+clashes.Goals as goal

pub clash-returns-then-ne : goal.clash-returns-then-ne
clash-returns-then-ne t c = λ _.
    operators_differ c.args.t.now c.args.u.now c.in-App-App.f c.in-App-App.g c.in-App-App.ts c.in-App-App.us c.in-App-App.is-0 c.in-App-App.is-1 (grind (arith, c.ne.ensures, c.if-ne.true))

pub clash-returns-else-f : goal.clash-returns-else-f
clash-returns-else-f t c = λ yes_.
    arguments_differ c.args.t.now c.args.u.now c.in-App-App.f c.in-App-App.g c.in-App-App.ts c.in-App-App.us c.in-App-App.is-0 c.in-App-App.is-1 (grind (arith, c.ne.ensures, c.if-ne.false)) c.if-f.false
    (λ s all. c.clash_somewhere.ensures yes_ s
    (subst (λ ts. SameAll (map (applied s) ts) (map (applied s) c.as_slice-in-App-App.result.now)) (sym c.as_slice.ensures)
    (subst (λ us. SameAll (map (applied s) c.in-App-App.ts) (map (applied s) us)) (sym c.as_slice-in-App-App.ensures) all)))

pub clash-returns-in-App-Name : goal.clash-returns-in-App-Name
clash-returns-in-App-Name t c = λ _.
    application_and_name c.args.t.now c.args.u.now c.in-App-Name.field-0-0 c.in-App-Name.field-1-0 c.in-App-Name.field-0-1 c.in-App-Name.is-0 c.in-App-Name.is-1

pub clash-returns-in-Name-Name : goal.clash-returns-in-Name-Name
clash-returns-in-Name-Name t c = λ yes_.
    names_differ c.args.t.now c.args.u.now c.in-Name-Name.m c.in-Name-Name.n c.in-Name-Name.is-0 c.in-Name-Name.is-1 (λ e. grind (arith, yes_, e))

pub clash-returns-in-Name-App : goal.clash-returns-in-Name-App
clash-returns-in-Name-App t c = λ _.
    name_and_application c.args.t.now c.args.u.now c.in-Name-App.field-0-0 c.in-Name-App.field-0-1 c.in-Name-App.field-1-1 c.in-Name-App.is-0 c.in-Name-App.is-1

pub clash_somewhere-returns-then-clash : goal.clash_somewhere-returns-then-clash
clash_somewhere-returns-then-clash t c = λ _.
    differ_somewhere c.args.ts.now c.args.us.now c.loop-i.i c.index-ts-i.result c.index-us-i.result
    (omega (arith, c.loop-i-test.true, c.min-i-end.ensures)) (omega (arith, c.loop-i-test.true, c.min-i-end.ensures)) c.index-ts-i.is c.index-us-i.is
    (c.clash.ensures c.if-clash.true)
