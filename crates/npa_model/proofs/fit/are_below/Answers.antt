use Rattle.std.proofs.Common.{sym, arith}
use Rattle.npa_model.proofs.Fitted.{below_apart, params_length}
use Rattle.npa_sig.specs.Parameters.{param_sorts}
use Rattle.npa_model.proofs.fit.are_below.Goals as goal

pub returns-then-args-few : goal.returns-then-args-few
returns-then-args-few c = sym (below_apart c.args.sig.now c.args.args.now (param_sorts c.args.strand.now) (λ e. omega (arith, e, params_length c.args.strand.now, c.if-args-few.true, c.len-few.ensures)))

pub returns-then-rest-fresh : goal.returns-then-rest-fresh
returns-then-rest-fresh c = sym (below_apart c.args.sig.now c.args.args.now (param_sorts c.args.strand.now) (λ e. omega (arith, e, params_length c.args.strand.now, c.if-args-few.false, c.if-rest-fresh.true, c.len-few.ensures)))
