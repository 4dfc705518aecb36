use Rattle.std.proofs.Common.{◌≡◌, ap, subst, sym, ◌∙◌}
use Rattle.std.specs.Prelude.{None, position}
use Rattle.npa_sorts.specs.Subsorts.{names_fresh}
use Rattle.npa_sorts.specs.Table.{rows_of, IsTable, IsOrder}
use Rattle.npa_sorts.proofs.TableLemmas.{order_made}
use Rattle.npa_sorts.proofs.sorts.Sorts.new.Goals as goal

pub invariant_of-result : goal.invariant_of-result
invariant_of-result c =
    let rows = rows_of c.in_ok-below.below.items in
    let pairs : c.in_ok-from_slice.field-0 ≡ c.args.pairs.now = c.in_ok-from_slice.ensures ∙ c.as_slice-3.ensures in
    let apart : position names_fresh c.args.pairs.now ≡ None = ap (position names_fresh) (sym c.as_slice.ensures) ∙ sym c.in_default.ensures in
    let table : IsTable (record { declared = c.args.declared; pairs = c.args.pairs.now }) rows =
    subst (λ ps. IsTable (record { declared = c.args.declared; pairs = ps }) rows) c.as_slice-2.ensures c.in_ok-below.ensures in
    subst (λ ps. IsOrder (record { declared = c.args.declared; pairs = ps }) rows) (sym pairs)
    (order_made (record { declared = c.args.declared; pairs = c.args.pairs.now }) c.in_ok-below.below.items c.deref.result.now c.requires.few c.requires.sorts apart table c.deref.ensures.value
    c.in_default-first_in_cycle.ensures)

pub returns-clause-order : goal.returns-clause-order
returns-clause-order c = (invariant_of-result c).acyclic
