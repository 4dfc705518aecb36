use Rattle.std.proofs.Common.{ap, ◌∙◌}
use Rattle.npa_text.specs.declared.symbols.TheConstants.{ITEM}
use Rattle.npa_reading.specs.Trees.{all_with}
use Rattle.npa_limits.specs.Limits.{first_passed, rows}
use Rattle.npa_limits.proofs.LimitLaws.{rows_of, or_both}
use Rattle.npa_limits.proofs.limits.first_limit.Goals as goal

pub returns : goal.returns
returns c =
    or_both _ _ _ _ _ c.or-9.ensures
    (or_both _ _ _ _ _ c.or-8.ensures
    (or_both _ _ _ _ _ c.or-7.ensures
    (or_both _ _ _ _ _ c.or-6.ensures
    (or_both _ _ _ _ _ c.or-5.ensures
    (or_both _ _ _ _ _ c.or-4.ensures
    (or_both _ _ _ _ _ c.or-3.ensures
    (or_both _ _ _ _ _ c.or-2.ensures
    (or_both _ _ _ _ _ c.or.ensures c.many_items.ensures c.many_items-2.ensures)
    c.first_item.ensures) c.many_items-3.ensures) c.many_items-4.ensures) c.first_item-2.ensures) c.first_item-3.ensures) c.many_items-5.ensures) c.first_item-4.ensures) c.first_item-5.ensures
    ∙ rows_of (all_with ITEM c.below-inside.result.now)
    ∙ ap (λ ns. first_passed (rows (all_with ITEM ns))) c.below-inside.ensures
