use Rattle.std.proofs.Common.{◌≡◌, Contains, arith}
use Rattle.npa_term.specs.declared.term.Var.{Var as Variable}
use Rattle.npa_unify.proofs.Testing.{more_members, refuted, shown}
use Rattle.npa_unify.proofs.fitting.have_one_sort.Goals as goal

pub returns-then-not-has_one_sort : goal.returns-then-not-has_one_sort
returns-then-not-has_one_sort c =
    refuted (λ (v : Variable). (w : Variable) → Contains c.args.vars.now w → v.num ≡ w.num → v ≡ w) c.args.vars.now c.loop-v.v-index _ c.has_one_sort.result c.loop-v-test.true c.if-not-has_one_sort.true c.has_one_sort.ensures

pub loop-v-preserved : goal.loop-v-preserved
loop-v-preserved c =
    more_members (λ (v : Variable). (w : Variable) → Contains c.args.vars.now w → v.num ≡ w.num → v ≡ w) c.args.vars.now c.loop-v.v-index _ c.loop-v-test.true c.loop-v.invariant
    (c.has_one_sort.ensures.0 cc)

pub returns : goal.returns
returns c = shown (λ (v : Variable). (w : Variable) → Contains c.args.vars.now w → v.num ≡ w.num → v ≡ w) c.args.vars.now c.loop-v.v-index (omega (arith, c.loop-v-test.false)) c.loop-v.invariant
