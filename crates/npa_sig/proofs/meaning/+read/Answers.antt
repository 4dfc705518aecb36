use Rattle.std.proofs.Common.{List, arith, sym, ◌∙◌, ap, Some, Ok}
use Rattle.npa_term.specs.declared.term.Term.{Term, App}
use Rattle.npa_sig.proofs.Meanings.{is_unknown, is_unfit, is_variable, is_fresh, all_read, one_fails, fits_as}
use Rattle.npa_sig.proofs.meaning.+read.Goals as goal

pub returns-in-None : goal.returns-in-None
returns-in-None t c =
    let found = sym c.head_of.ensures in
    is_unknown c.args.sig.now c.args.scope.now c.args.bytes.now c.args.raw.now c.unknown.result (found ∙ c.in-None.is) c.unknown.ensures

pub returns-then-not-fits : goal.returns-then-not-fits
returns-then-not-fits t c =
    let found = sym c.head_of.ensures in
    is_unfit c.args.sig.now c.args.scope.now c.args.bytes.now c.args.raw.now c.in-Some.head (found ∙ c.in-Some.is)
    c.unfit.result c.as_slice-args.result.now c.as_slice-args.ensures (sym c.fits.ensures ∙ c.if-not-fits.true) c.unfit.ensures

pub returns-in-Variable : goal.returns-in-Variable
returns-in-Variable t c =
    let found = sym c.head_of.ensures in
    is_variable c.args.sig.now c.args.scope.now c.args.bytes.now c.args.raw.now c.in-Variable.v c.as_slice-args.result.now c.as_slice-args.ensures (found ∙ c.in-Some.is ∙ ap Some c.in-Variable.is) (fits_as c.args.sig.now _ c.in-Variable.is c.fits.ensures c.if-not-fits.false)

pub returns-in-Fresh : goal.returns-in-Fresh
returns-in-Fresh t c =
    let found = sym c.head_of.ensures in
    is_fresh c.args.sig.now c.args.scope.now c.args.bytes.now c.args.raw.now c.in-Fresh.n c.as_slice-args.result.now c.as_slice-args.ensures (found ∙ c.in-Some.is ∙ ap Some c.in-Fresh.is) (fits_as c.args.sig.now _ c.in-Fresh.is c.fits.ensures c.if-not-fits.false)

pub returns-in-Err : goal.returns-in-Err
returns-in-Err t c =
    let found = sym c.head_of.ensures in
    one_fails c.args.sig.now c.args.scope.now c.args.bytes.now c.args.raw.now c.in-Operator.op c.as_slice-args.result.now c.as_slice-args.ensures (found ∙ c.in-Some.is ∙ ap Some c.in-Operator.is) (fits_as c.args.sig.now _ c.in-Operator.is c.fits.ensures c.if-not-fits.false)
    c.loop-arg.terms.items c.loop-arg.arg-index c.loop-arg.invariant c.arg-item.result c.in-Err.fault (omega arith) c.arg-item.is c.in-Err.ensures

pub returns-after-loop-arg : goal.returns-after-loop-arg
returns-after-loop-arg t c =
    let found = sym c.head_of.ensures in
    all_read c.args.sig.now c.args.scope.now c.args.bytes.now c.args.raw.now c.in-Operator.op c.as_slice-args.result.now c.as_slice-args.ensures (found ∙ c.in-Some.is ∙ ap Some c.in-Operator.is) (fits_as c.args.sig.now _ c.in-Operator.is c.fits.ensures c.if-not-fits.false)
    c.loop-arg.terms.items c.loop-arg.arg-index c.loop-arg.invariant (omega arith) ∙ ap (λ (ts : List Term). Ok (App c.in-Operator.op ts)) (sym c.from_vec.ensures)
