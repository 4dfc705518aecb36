use Rattle.std.proofs.Common.{arith}
use Rattle.npa_sorts.proofs.Climbs.{below_decides}
use Rattle.npa_sorts.proofs.sorts.Sorts.le.Goals as goal

pub returns-else-s-t-clause-value : goal.returns-else-s-t-clause-value
returns-else-s-t-clause-value c = below_decides c.args.self.now c.args.s c.args.t _ (λ e. let no : ⊥ = omega (arith, e, c.if-s-t.false) in no) c.is_below.ensures
