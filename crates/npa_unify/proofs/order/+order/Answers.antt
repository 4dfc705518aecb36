use Rattle.std.proofs.Common.{map, sym, ◌∙◌, ap, arith}
use Rattle.std.specs.Cmp.Lexicographic.{slice_cmp}
use Rattle.std.specs.Ordering.{nat_cmp, ordering_then}
use Rattle.npa_term.specs.declared.term.Term.{Var, Name, App}
use Rattle.npa_term.specs.Canonical.{ordered}
use Rattle.npa_term.specs.Order.{term_cmp}
use Rattle.npa_unify.specs.Seen.{form, full, head_term, placed, raw}
use Rattle.npa_unify.proofs.Comparing.{app_name, app_var, apps_other, apps_tied, compared, form_app, form_name, form_var, name_app, name_var, placed_count, step_other, step_tied, steps_end, var_app, var_name}
use Rattle.npa_unify.proofs.Measuring.{walked_measure}
use Rattle.npa_unify.proofs.order.+order.Goals as goal

pub order-order_arguments-requires : goal.order-order_arguments-requires
order-order_arguments-requires t c =
    let bs = raw c.args.bound.now in
    let one = walked_measure bs c.args.t.now c.in-App.f c.in-App.ts.now c.requires.sound (sym (ap head_term c.in-App.is) ∙ c.walk-left.ensures) in
    let two = walked_measure bs c.args.u.now c.in-App-right-3.g c.in-App-right-3.us.now c.requires.sound (sym (ap head_term c.in-App-right-3.is) ∙ c.walk-right.ensures) in
    (omega (arith, one, two, c.decreases), c.requires.sound)

pub order-returns-in-Var-right : goal.order-returns-in-Var-right
order-returns-in-Var-right t c =
    let bs = raw c.args.bound.now in
    let one = form_var bs c.args.t.now c.in-Var.v c.requires.sound (sym (ap head_term c.in-Var.is) ∙ c.walk-left.ensures) in
    let two = form_var bs c.args.u.now c.in-Var-right.w c.requires.sound (sym (ap head_term c.in-Var-right.is) ∙ c.walk-right.ensures) in
    c.then.ensures ∙ ap (λ o. ordering_then o c.cmp-in-Var-right.result) c.cmp.ensures
    ∙ ap (ordering_then (nat_cmp c.in-Var.v.num c.in-Var-right.w.num)) c.cmp-in-Var-right.ensures
    ∙ compared (form bs c.args.t.now) (form bs c.args.u.now) (Var c.in-Var.v) (Var c.in-Var-right.w) one two

pub order-returns-in-Name-right : goal.order-returns-in-Name-right
order-returns-in-Name-right t c =
    let bs = raw c.args.bound.now in
    let one = form_var bs c.args.t.now c.in-Var.v c.requires.sound (sym (ap head_term c.in-Var.is) ∙ c.walk-left.ensures) in
    let two = form_name bs c.args.u.now c.in-Name-right.field-0 c.requires.sound (sym (ap head_term c.in-Name-right.is) ∙ c.walk-right.ensures) in
    var_name c.in-Var.v c.in-Name-right.field-0 ∙ compared (form bs c.args.t.now) (form bs c.args.u.now) (Var c.in-Var.v) (Name c.in-Name-right.field-0) one two

pub order-returns-in-App-right : goal.order-returns-in-App-right
order-returns-in-App-right t c =
    let bs = raw c.args.bound.now in
    let f = c.in-App-right.field-0 in
    let ts = c.in-App-right.field-1.now in
    let one = form_var bs c.args.t.now c.in-Var.v c.requires.sound (sym (ap head_term c.in-Var.is) ∙ c.walk-left.ensures) in
    let two = form_app bs c.args.u.now f ts c.requires.sound (sym (ap head_term c.in-App-right.is) ∙ c.walk-right.ensures) in
    var_app c.in-Var.v f (ordered f (map (form bs) ts)) ∙ compared (form bs c.args.t.now) (form bs c.args.u.now) (Var c.in-Var.v) (App f (ordered f (map (form bs) ts))) one two

pub order-returns-in-Var-right-2 : goal.order-returns-in-Var-right-2
order-returns-in-Var-right-2 t c =
    let bs = raw c.args.bound.now in
    let one = form_name bs c.args.t.now c.in-Name.m c.requires.sound (sym (ap head_term c.in-Name.is) ∙ c.walk-left.ensures) in
    let two = form_var bs c.args.u.now c.in-Var-right-2.field-0 c.requires.sound (sym (ap head_term c.in-Var-right-2.is) ∙ c.walk-right.ensures) in
    name_var c.in-Name.m c.in-Var-right-2.field-0 ∙ compared (form bs c.args.t.now) (form bs c.args.u.now) (Name c.in-Name.m) (Var c.in-Var-right-2.field-0) one two

pub order-returns-in-Name-right-2 : goal.order-returns-in-Name-right-2
order-returns-in-Name-right-2 t c =
    let bs = raw c.args.bound.now in
    let one = form_name bs c.args.t.now c.in-Name.m c.requires.sound (sym (ap head_term c.in-Name.is) ∙ c.walk-left.ensures) in
    let two = form_name bs c.args.u.now c.in-Name-right-2.n c.requires.sound (sym (ap head_term c.in-Name-right-2.is) ∙ c.walk-right.ensures) in
    c.cmp-in-Name-right-2.ensures ∙ compared (form bs c.args.t.now) (form bs c.args.u.now) (Name c.in-Name.m) (Name c.in-Name-right-2.n) one two

pub order-returns-in-App-right-2 : goal.order-returns-in-App-right-2
order-returns-in-App-right-2 t c =
    let bs = raw c.args.bound.now in
    let f = c.in-App-right-2.field-0 in
    let ts = c.in-App-right-2.field-1.now in
    let one = form_name bs c.args.t.now c.in-Name.m c.requires.sound (sym (ap head_term c.in-Name.is) ∙ c.walk-left.ensures) in
    let two = form_app bs c.args.u.now f ts c.requires.sound (sym (ap head_term c.in-App-right-2.is) ∙ c.walk-right.ensures) in
    name_app c.in-Name.m f (ordered f (map (form bs) ts)) ∙ compared (form bs c.args.t.now) (form bs c.args.u.now) (Name c.in-Name.m) (App f (ordered f (map (form bs) ts))) one two

pub order-returns-in-Var-right-3 : goal.order-returns-in-Var-right-3
order-returns-in-Var-right-3 t c =
    let bs = raw c.args.bound.now in
    let f = c.in-App.f in
    let ts = c.in-App.ts.now in
    let one = form_app bs c.args.t.now f ts c.requires.sound (sym (ap head_term c.in-App.is) ∙ c.walk-left.ensures) in
    let two = form_var bs c.args.u.now c.in-Var-right-3.field-0 c.requires.sound (sym (ap head_term c.in-Var-right-3.is) ∙ c.walk-right.ensures) in
    app_var f (ordered f (map (form bs) ts)) c.in-Var-right-3.field-0
    ∙ compared (form bs c.args.t.now) (form bs c.args.u.now) (App f (ordered f (map (form bs) ts))) (Var c.in-Var-right-3.field-0) one two

pub order-returns-in-Name-right-3 : goal.order-returns-in-Name-right-3
order-returns-in-Name-right-3 t c =
    let bs = raw c.args.bound.now in
    let f = c.in-App.f in
    let ts = c.in-App.ts.now in
    let one = form_app bs c.args.t.now f ts c.requires.sound (sym (ap head_term c.in-App.is) ∙ c.walk-left.ensures) in
    let two = form_name bs c.args.u.now c.in-Name-right-3.field-0 c.requires.sound (sym (ap head_term c.in-Name-right-3.is) ∙ c.walk-right.ensures) in
    app_name f (ordered f (map (form bs) ts)) c.in-Name-right-3.field-0
    ∙ compared (form bs c.args.t.now) (form bs c.args.u.now) (App f (ordered f (map (form bs) ts))) (Name c.in-Name-right-3.field-0) one two

pub order-returns-in-Equal : goal.order-returns-in-Equal
order-returns-in-Equal t c =
    let bs = raw c.args.bound.now in
    let h = form bs in
    let f = c.in-App.f in
    let ts = c.in-App.ts.now in
    let g = c.in-App-right-3.g in
    let us = c.in-App-right-3.us.now in
    let one = form_app bs c.args.t.now f ts c.requires.sound (sym (ap head_term c.in-App.is) ∙ c.walk-left.ensures) in
    let two = form_app bs c.args.u.now g us c.requires.sound (sym (ap head_term c.in-App-right-3.is) ∙ c.walk-right.ensures) in
    c.order_arguments.ensures
    ∙ apps_tied f g (ordered f (map h ts)) (ordered g (map h us)) c.cmp-in-App-right-3.result c.cmp-in-App-right-3.ensures c.in-Equal.is
    ∙ compared (form bs c.args.t.now) (form bs c.args.u.now) (App f (ordered f (map h ts))) (App g (ordered g (map h us))) one two

pub order-returns-in_default : goal.order-returns-in_default
order-returns-in_default t c =
    let bs = raw c.args.bound.now in
    let h = form bs in
    let f = c.in-App.f in
    let ts = c.in-App.ts.now in
    let g = c.in-App-right-3.g in
    let us = c.in-App-right-3.us.now in
    let one = form_app bs c.args.t.now f ts c.requires.sound (sym (ap head_term c.in-App.is) ∙ c.walk-left.ensures) in
    let two = form_app bs c.args.u.now g us c.requires.sound (sym (ap head_term c.in-App-right-3.is) ∙ c.walk-right.ensures) in
    apps_other f g (ordered f (map h ts)) (ordered g (map h us)) c.cmp-in-App-right-3.result c.cmp-in-App-right-3.ensures c.in_default.not-Equal
    ∙ compared (form bs c.args.t.now) (form bs c.args.u.now) (App f (ordered f (map h ts))) (App g (ordered g (map h us))) one two

pub order_arguments-is_turned-right-requires : goal.order_arguments-is_turned-right-requires
order_arguments-is_turned-right-requires t c = (omega (arith, c.decreases), c.requires.sound)

pub order_arguments-order-found-requires : goal.order_arguments-order-found-requires
order_arguments-order-found-requires t c =
    let h = full (raw c.args.bound.now) in
    let one = placed_count h c.is_turned-left.result c.args.ts.now c.loop-i.i c.argument.result.now c.argument.ensures in
    let two = placed_count h c.is_turned-right.result c.args.us.now c.loop-i.i c.argument-in-loop-i.result.now c.argument-in-loop-i.ensures in
    (omega (arith, one, two, c.decreases), c.requires.sound)

pub order_arguments-returns-then-ne : goal.order_arguments-returns-then-ne
order_arguments-returns-then-ne t c =
    let h = form (raw c.args.bound.now) in
    step_other h (placed c.is_turned-left.result c.args.ts.now) (placed c.is_turned-right.result c.args.us.now) c.loop-i.i c.argument.result.now c.argument-in-loop-i.result.now c.order-found.result
    c.argument.ensures c.argument-in-loop-i.ensures c.order-found.ensures (λ e. grind (arith, c.ne.ensures, c.if-ne.true, e))
    ∙ c.loop-i.invariant ∙ ap (λ xs. slice_cmp term_cmp xs (map h (placed c.is_turned-right.result c.args.us.now))) c.is_turned-left.ensures.placed
    ∙ ap (slice_cmp term_cmp (ordered c.args.f (map h c.args.ts.now))) c.is_turned-right.ensures.placed

pub order_arguments-loop-i-preserved : goal.order_arguments-loop-i-preserved
order_arguments-loop-i-preserved t c =
    let h = form (raw c.args.bound.now) in
    step_tied h (placed c.is_turned-left.result c.args.ts.now) (placed c.is_turned-right.result c.args.us.now) c.loop-i.i c.argument.result.now c.argument-in-loop-i.result.now c.order-found.result
    c.argument.ensures c.argument-in-loop-i.ensures c.order-found.ensures (grind (arith, c.ne.ensures, c.if-ne.false)) ∙ c.loop-i.invariant

pub order_arguments-returns : goal.order_arguments-returns
order_arguments-returns t c =
    let h = form (raw c.args.bound.now) in
    c.cmp.ensures
    ∙ steps_end h c.is_turned-left.result c.is_turned-right.result c.args.ts.now c.args.us.now c.loop-i.i (omega (arith, c.loop-i-test.false, c.loop-i.auto.i-end, c.min-i-end.ensures))
    ∙ c.loop-i.invariant ∙ ap (λ xs. slice_cmp term_cmp xs (map h (placed c.is_turned-right.result c.args.us.now))) c.is_turned-left.ensures.placed
    ∙ ap (slice_cmp term_cmp (ordered c.args.f (map h c.args.ts.now))) c.is_turned-right.ensures.placed
