use Rattle.std.proofs.Common.{◌<◌, arith}
use Rattle.npa_sorts.specs.Subsorts.{IsSort}
use Rattle.npa_term.specs.declared.term.Var.{Var as Variable}
use Rattle.npa_unify.proofs.Testing.{more_members, refuted, shown}
use Rattle.npa_unify.proofs.fitting.are_low.Goals as goal

pub returns-then-not-is_low : goal.returns-then-not-is_low
returns-then-not-is_low c =
    refuted (λ (v : Variable). IsSort c.args.sorts.now v.sort × (v.num < c.args.next)) c.args.vars.now c.loop-v.v-index _ c.is_low.result c.loop-v-test.true c.if-not-is_low.true c.is_low.ensures

pub loop-v-preserved : goal.loop-v-preserved
loop-v-preserved c =
    more_members (λ (v : Variable). IsSort c.args.sorts.now v.sort × (v.num < c.args.next)) c.args.vars.now c.loop-v.v-index _ c.loop-v-test.true c.loop-v.invariant
    (c.is_low.ensures.0 cc)

pub returns : goal.returns
returns c = shown (λ (v : Variable). IsSort c.args.sorts.now v.sort × (v.num < c.args.next)) c.args.vars.now c.loop-v.v-index (omega (arith, c.loop-v-test.false)) c.loop-v.invariant
