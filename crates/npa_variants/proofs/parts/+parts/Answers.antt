use Rattle.std.proofs.Common.{sym, ◌∙◌, ap}
use Rattle.std.specs.Prelude.{flat_map}
use Rattle.npa_variants.specs.Rows.{is_among, parts}
use Rattle.npa_variants.proofs.Parting.{among_inside, among_whole}
use Rattle.npa_variants.proofs.parts.+parts.Goals as goal

pub has_part-returns-then-equals : goal.has_part-returns-then-equals
has_part-returns-then-equals t c = sym (among_whole c.args.t.now c.args.part.now (sym c.equals.ensures ∙ c.if-equals.true))

pub has_part-returns-in-App : goal.has_part-returns-in-App
has_part-returns-in-App t c =
    c.have_part.ensures ∙ ap (λ us. is_among (flat_map parts us) c.args.part.now) c.as_slice.ensures
    ∙ sym (among_inside c.args.t.now c.args.part.now c.in-App.field-0 c.in-App.args c.in-App.is (sym c.equals.ensures ∙ c.if-equals.false))
