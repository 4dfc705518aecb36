use Rattle.std.proofs.Common.{◌≡◌, ap, ◌∙◌, arith}
use Rattle.npa_sorts.specs.Table.{rows_of, grown_rows}
use Rattle.npa_sorts.proofs.Grown.{order_grown}
use Rattle.npa_sorts.proofs.sorts.Sorts.declare.Goals as goal

pub invariant_of-self : goal.invariant_of-self
invariant_of-self c =
    let same : rows_of c.in_ok-self-inside.field-0.items ≡ grown_rows (rows_of c.self.inside.below.items) =
    c.in_ok-self-inside.ensures ∙ ap (λ vs. grown_rows (rows_of vs)) c.deref.ensures.value in
    order_grown _ (rows_of c.self.inside.below.items) _ c.self.invariant (omega (arith, c.requires, ap (λ o. o.declared) c.self.view_is)) same
