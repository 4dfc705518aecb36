use Rattle.std.proofs.Common.{◌≡◌, ◌<◌, ◌∙◌, None, Some, Err, List, length, slice_get, sym, ap, subst}
use Rattle.std.proofs.lemmas.Result.{err_from_is_err_and}
use Rattle.npa_sig.specs.declared.protocol.Protocol.{Protocol}
use Rattle.npa_rewrite.specs.declared.theory.Theory.{Theory}
use Rattle.npa_rewrite.specs.Theories.{theory_of}
use Rattle.npa_conv.specs.Theories.{IsPlainTheory}
use Rattle.npa_model.specs.declared.aim.Aim.{Aim}
use Rattle.npa_close.specs.Checks.{Holds, IsFitAim}
use Rattle.npa_close.proofs.Forms.{fit_aim, plain_theory}
use Rattle.npa_close.proofs.Telling.{handed, by_grounds, by_convergence, by_variants, by_aims, by_none, holds, cancels, converges}
use Rattle.npa_close.proofs.checked.Checked.make.Goals as goal

pub returns-in_err-check_grounds : goal.returns-in_err-check_grounds
returns-in_err-check_grounds c =
    let p = err_from_is_err_and c.from_residual.result c.from_residual.ensures.1 in
    record {
      answer = handed c.args.protocol c.args.aims c.from_residual.result p.0 c.in_err-check_grounds.field-0.0 p.1 p.2
          (by_grounds c.args.protocol c.args.aims c.in_err-check_grounds.field-0.0 c.in_err-check_grounds.ensures);
    }

pub check_convergence-requires : goal.check_convergence-requires
check_convergence-requires c = plain_theory c.args.protocol c.requires.formed c.requires.plain c.in_ok-th.th c.in_ok-th.ensures.theory

pub returns-in_err-check_convergence : goal.returns-in_err-check_convergence
returns-in_err-check_convergence c =
    let p = err_from_is_err_and c.from_residual-in_err-check_convergence.result c.from_residual-in_err-check_convergence.ensures.1 in
    record {
      answer = handed c.args.protocol c.args.aims c.from_residual-in_err-check_convergence.result p.0 c.in_err-check_convergence.field-0.0 p.1 p.2
          (by_convergence c.args.protocol c.args.aims c.in_ok-check_grounds.ensures.1 c.in_ok-th.th c.in_ok-th.ensures.theory
          c.in_err-check_convergence.field-0.0 c.in_err-check_convergence.ensures.told);
    }

pub made_ready-requires-clause-cancelling : goal.made_ready-requires-clause-cancelling
made_ready-requires-clause-cancelling c =
    cancels c.args.protocol c.args.aims c.in_ok-check_grounds.ensures.1 c.in_ok-th.th c.in_ok-th.ensures.theory c.in_ok-check_convergence.ensures.cancelling

pub made_ready-requires-clause-convergent : goal.made_ready-requires-clause-convergent
made_ready-requires-clause-convergent c =
    converges c.args.protocol c.args.aims c.in_ok-check_grounds.ensures.1 c.in_ok-th.th c.in_ok-th.ensures.theory c.in_ok-check_convergence.ensures.convergent

pub returns-in_err-ready : goal.returns-in_err-ready
returns-in_err-ready c =
    let p = err_from_is_err_and c.from_residual-in_err-ready.result c.from_residual-in_err-ready.ensures.1 in
    record {
      answer = handed c.args.protocol c.args.aims c.from_residual-in_err-ready.result p.0 c.in_err-ready.field-0.0 p.1 p.2
          (by_variants c.args.protocol c.args.aims c.in_ok-check_grounds.ensures.1 c.in_ok-th.th c.in_ok-th.ensures.theory
          c.in_ok-check_convergence.ensures.told.1 c.in_err-ready.field-0.0 c.in_err-ready.ensures);
    }

pub check_aims-requires-clause-theory : goal.check_aims-requires-clause-theory
check_aims-requires-clause-theory c =
    let own : c.theory.result.now ≡ theory_of c.args.protocol = c.theory.ensures ∙ ap theory_of c.in_ok-ready.ensures.0 in
    plain_theory c.args.protocol c.requires.formed c.requires.plain c.theory.result.now own

pub check_aims-requires-clause-fit : goal.check_aims-requires-clause-fit
check_aims-requires-clause-fit c = λ k aim at.
    let own : c.theory.result.now ≡ theory_of c.args.protocol = c.theory.ensures ∙ ap theory_of c.in_ok-ready.ensures.0 in
    let there : slice_get c.args.aims k ≡ Some aim = subst (λ (xs : List Aim). slice_get xs k ≡ Some aim) c.as_slice.ensures at in
    subst (λ (x : Theory). IsFitAim x.sig aim) (sym own)
    (fit_aim c.args.protocol.sig c.args.protocol.strands aim (c.requires.aims k aim there) (c.requires.plain_aims k aim there))

pub check_aims-requires-clause-few : goal.check_aims-requires-clause-few
check_aims-requires-clause-few c = subst (λ (xs : List Aim). length xs < 65535) (sym c.as_slice.ensures) c.requires.few

pub returns-in_err-check_aims : goal.returns-in_err-check_aims
returns-in_err-check_aims c =
    let p = err_from_is_err_and c.from_residual-in_err-check_aims.result c.from_residual-in_err-check_aims.ensures.1 in
    let own : c.theory.result.now ≡ theory_of c.args.protocol = c.theory.ensures ∙ ap theory_of c.in_ok-ready.ensures.0 in
    record {
      answer = handed c.args.protocol c.args.aims c.from_residual-in_err-check_aims.result p.0 c.in_err-check_aims.field-0.0 p.1 p.2
          (by_aims c.args.protocol c.args.aims c.in_ok-check_grounds.ensures.1 c.in_ok-th.th c.in_ok-th.ensures.theory c.in_ok-check_convergence.ensures.told.1
          c.in_ok-ready.ensures.1 c.theory.result.now own c.as_slice.result.now c.as_slice.ensures c.in_err-check_aims.field-0.0 c.in_err-check_aims.ensures);
    }

pub invariant_of-result : goal.invariant_of-result
invariant_of-result c =
    let own : c.theory.result.now ≡ theory_of c.args.protocol = c.theory.ensures ∙ ap theory_of c.in_ok-ready.ensures.0 in
    subst (λ (p : Protocol). Holds p c.args.aims) (sym c.in_ok-ready.ensures.0)
    (holds c.args.protocol c.args.aims c.in_ok-check_grounds.ensures.1 c.in_ok-th.th c.in_ok-th.ensures.theory c.in_ok-check_convergence.ensures.told.1
    c.in_ok-ready.ensures.1 c.theory.result.now own c.as_slice.result.now c.as_slice.ensures
    c.in_ok-check_convergence.ensures.cancelling c.in_ok-check_convergence.ensures.convergent c.in_ok-check_aims.ensures.1)

pub returns : goal.returns
returns c =
    let own : c.theory.result.now ≡ theory_of c.args.protocol = c.theory.ensures ∙ ap theory_of c.in_ok-ready.ensures.0 in
    record {
      answer = (
        ap (λ (p : Protocol). (p, c.args.aims)) c.in_ok-ready.ensures.0,
        by_none c.args.protocol c.args.aims c.in_ok-check_grounds.ensures.1 c.in_ok-th.th c.in_ok-th.ensures.theory c.in_ok-check_convergence.ensures.told.1
            c.in_ok-ready.ensures.1 c.theory.result.now own c.as_slice.result.now c.as_slice.ensures c.in_ok-check_aims.ensures.1,
      );
    }
