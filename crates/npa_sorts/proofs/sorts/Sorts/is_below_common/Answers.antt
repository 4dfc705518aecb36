use Rattle.std.proofs.Common.{subst, ap, arith}
use Rattle.npa_sorts.specs.Subsorts.{AreSorts}
use Rattle.npa_sorts.proofs.Steps.{at_or_below_sort}
use Rattle.npa_sorts.proofs.sorts.Sorts.is_below_common.Goals as goal

pub returns-clause-maximal : goal.returns-clause-maximal
returns-clause-maximal c = λ r low high above.
    let sort = at_or_below_sort c.args.self.now r c.args.s (subst AreSorts c.self.view_is c.self.invariant.sorts) low c.requires.first in
    c.loop-r.invariant r (omega (arith, c.loop-r-test.false, ap (λ o. o.declared) c.self.view_is, sort)) low high above
