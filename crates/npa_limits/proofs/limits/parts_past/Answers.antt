use Rattle.std.proofs.Common.{sym, ◌∙◌}
use Rattle.npa_limits.proofs.TallyLaws.{parts_none, parts_some}
use Rattle.npa_limits.proofs.limits.parts_past.Goals as goal

pub returns-in_err-known : goal.returns-in_err-known
returns-in_err-known c =
    c.from_residual.ensures ∙ parts_none c.args.item.now c.as_slice.result.now c.tally_parts-tally.result
    (sym c.is_aim.ensures ∙ c.if-not-is_aim.false) c.as_slice.ensures c.tally_parts-tally.ensures c.in_err-known.was

pub returns : goal.returns
returns c =
    parts_some c.args.item.now c.as_slice.result.now c.tally_parts-tally.result c.in_ok-known.known c.number_of.result
    (sym c.is_aim.ensures ∙ c.if-not-is_aim.false) c.as_slice.ensures c.tally_parts-tally.ensures c.in_ok-known.was c.number_of.ensures
