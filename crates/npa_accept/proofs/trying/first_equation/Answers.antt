use Rattle.std.proofs.Common.{◌≡◌, ◌<◌, ◌≤◌, ◌^◌, Some, length, get_or, slice_get, ap, sym, ◌∙◌, subst, arith}
use Rattle.std.proofs.lemmas.Option.{slice_get-get_or}
use Rattle.npa_sig.specs.declared.protocol.Equation.{Equation}
use Rattle.npa_rewrite.specs.Accepted.{Unify}
use Rattle.npa_accept.specs.Fit.{IsFitTerm}
use Rattle.npa_accept.proofs.Firsts.{apart_all, apart_step, first_equation_at}
use Rattle.npa_accept.proofs.Own.{left_fit}
use Rattle.npa_accept.proofs.trying.first_equation.Goals as goal

pub unifies-requires-clause-left : goal.unifies-requires-clause-left
unifies-requires-clause-left c =
    let es = c.args.th.now.equations in
    let e = c.index-equations-i.result in
    let small : c.loop-i.i < length es = omega (arith, c.loop-i-test.true, ap length c.as_slice-equations.ensures) in
    let is : e ≡ get_or es c.loop-i.i e = c.index-equations-i.is ∙ ap (λ ds. get_or ds c.loop-i.i e) c.as_slice-equations.ensures in
    let there : slice_get es c.loop-i.i ≡ Some e = slice_get-get_or es c.loop-i.i e small ∙ ap Some (sym is) in
    subst (λ (d : Equation). IsFitTerm c.args.th.now.sig (2 ^ 30) d.left) c.index-equations-i.is (left_fit c.args.th.now.sig es c.loop-i.i e c.requires.formed c.requires.plain there)

pub returns-then-branch : goal.returns-then-branch
returns-then-branch c =
    let es = c.args.th.now.equations in
    let e = c.index-equations-i.result in
    let small : c.loop-i.i < length es = omega (arith, c.loop-i-test.true, ap length c.as_slice-equations.ensures) in
    let is : e ≡ get_or es c.loop-i.i e = c.index-equations-i.is ∙ ap (λ ds. get_or ds c.loop-i.i e) c.as_slice-equations.ensures in
    let unify : Unify c.args.th.now.sig c.args.t.now e.left =
    subst (λ (d : Equation). Unify c.args.th.now.sig c.args.t.now d.left) (sym c.index-equations-i.is) (c.in_ok-unifies.ensures.0 c.if-branch.true) in
    first_equation_at c.args.th.now c.args.t.now c.loop-i.i e is small c.loop-i.invariant unify

pub loop-i-preserved : goal.loop-i-preserved
loop-i-preserved c =
    let es = c.args.th.now.equations in
    let e = c.index-equations-i.result in
    let small : c.loop-i.i < length es = omega (arith, c.loop-i-test.true, ap length c.as_slice-equations.ensures) in
    let is : e ≡ get_or es c.loop-i.i e = c.index-equations-i.is ∙ ap (λ ds. get_or ds c.loop-i.i e) c.as_slice-equations.ensures in
    let apart : Unify c.args.th.now.sig c.args.t.now e.left → ⊥ = λ u.
    let yes = c.in_ok-unifies.ensures.1 (subst (λ (d : Equation). Unify c.args.th.now.sig c.args.t.now d.left) c.index-equations-i.is u) in
    let no = c.if-branch.false in
    let bad : ⊥ = cc in bad in
    apart_step c.args.th.now c.args.t.now c.loop-i.i e is small c.loop-i.invariant apart

pub returns : goal.returns
returns c =
    let ends : length c.args.th.now.equations ≤ c.loop-i.i = omega (arith, c.loop-i-test.false, ap length c.as_slice-equations.ensures) in
    apart_all c.args.th.now c.args.t.now c.loop-i.i ends c.loop-i.invariant
