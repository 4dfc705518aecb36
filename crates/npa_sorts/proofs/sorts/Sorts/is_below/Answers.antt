use Rattle.std.proofs.Common.{ap, arith}
use Rattle.std.proofs.lemmas.Bool.{ltb-true}
use Rattle.npa_sorts.specs.Subsorts.{IsSort}
use Rattle.npa_sorts.proofs.Climbs.{outside_not_below}
use Rattle.npa_sorts.proofs.sorts.Sorts.is_below.Goals as goal

pub returns-else-max-self : goal.returns-else-max-self
returns-else-max-self c =
    let count = ap (λ o. o.declared) c.self.view_is in
    let outside : IsSort c.args.self.now c.args.s → IsSort c.args.self.now c.args.t → ⊥ =
    λ low high. let no : ⊥ = omega (arith, c.if-max-self.false, c.max.ensures, count, low, high) in no in (
      λ is. let no : ⊥ = omega (arith, c.if-max-self.false, ltb-true _ _ is) in absurd no,
      λ below. absurd (outside_not_below c.self.view_is c.self.invariant.sorts outside below),
    )
