use Rattle.std.proofs.Common.{◌≡◌, arith}
use Rattle.npa_term.specs.declared.term.Var.{Var as Variable}
use Rattle.npa_unify.proofs.Testing.{more_members, refuted, shown}
use Rattle.npa_unify.proofs.fitting.has_one_sort.Goals as goal

pub returns-then-not-is_apart : goal.returns-then-not-is_apart
returns-then-not-is_apart c =
    refuted (λ (w : Variable). c.args.v.num ≡ w.num → c.args.v ≡ w) c.args.vars.now c.loop-w.w-index _ c.is_apart.result c.loop-w-test.true c.if-not-is_apart.true c.is_apart.ensures

pub loop-w-preserved : goal.loop-w-preserved
loop-w-preserved c =
    more_members (λ (w : Variable). c.args.v.num ≡ w.num → c.args.v ≡ w) c.args.vars.now c.loop-w.w-index _ c.loop-w-test.true c.loop-w.invariant
    (c.is_apart.ensures.0 cc)

pub returns : goal.returns
returns c = shown (λ (w : Variable). c.args.v.num ≡ w.num → c.args.v ≡ w) c.args.vars.now c.loop-w.w-index (omega (arith, c.loop-w-test.false)) c.loop-w.invariant
