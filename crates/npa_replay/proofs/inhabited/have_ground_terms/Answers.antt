use Rattle.std.proofs.Common.{ap, arith}
use Rattle.npa_sorts.specs.Subsorts.{Subsorts}
use Rattle.npa_replay.proofs.Judging.{all_have}
use Rattle.npa_replay.proofs.inhabited.have_ground_terms.Goals as goal

pub returns-clause-all : goal.returns-clause-all
returns-clause-all c _ = all_have c.args.sig.now c.args.sorts.now c.loop-sort.sort c.requires.sorts
    (omega (arith, c.loop-sort-test.false, c.declared-sort-end.ensures.value, ap (λ (o : Subsorts). o.declared) c.sorts.ensures)) c.loop-sort.invariant
