use Rattle.std.proofs.Common.{◌∷◌, sym, ◌∙◌, ap, arith, []}
use Rattle.npa_term.specs.declared.term.Term.{App}
use Rattle.npa_term.proofs.Compared.{same_at, uneven_differ}
use Rattle.npa_term.proofs.commuted.+commuted.Goals as goal

pub equals-returns-then-eq : goal.equals-returns-then-eq
equals-returns-then-eq t c =
    let first = c.in-App-App.is-0 ∙ ap (App c.in-App-App.f) (sym c.as_slice.ensures) in
    let second = c.in-App-App.is-1 ∙ ap (App c.in-App-App.g) (sym c.as_slice-then-eq.ensures) in
    c.arguments_equal.ensures ∙ sym (same_at _ _ c.in-App-App.f c.in-App-App.g c.as_slice.result.now c.as_slice-then-eq.result.now first second (sym c.if-eq.ensures))

pub all_equal-returns-then-ts-us : goal.all_equal-returns-then-ts-us
all_equal-returns-then-ts-us t c = sym (uneven_differ c.args.ts.now c.args.us.now c.if-ts-us.true)

pub are_two-returns-in_default : goal.are_two-returns-in_default
are_two-returns-in_default t c =
    sym (uneven_differ c.args.ts.now (c.args.u.now ∷ c.args.w.now ∷ []) (λ e. omega (arith, e, c.in_default.len_below)))

pub are_two-returns-in_default-2 : goal.are_two-returns-in_default-2
are_two-returns-in_default-2 t c =
    sym (uneven_differ c.args.ts.now (c.args.u.now ∷ c.args.w.now ∷ []) (λ e. omega (arith, e, c.in_default.len_at_least)))
