use Rattle.std.proofs.Common.{◌≡◌, sym, subst, arith}
use Rattle.std.proofs.lemmas.Grind.{common_steps}
use Rattle.npa_term.specs.Numbering.{variables_once}
use Rattle.npa_variants.specs.Told.{AreDistinct}
use Rattle.npa_variants.proofs.Distinct.{once_distinct}
use Rattle.npa_variants.proofs.finding.found.Goals as goal

pub variants_of-requires : goal.variants_of-requires
variants_of-requires c =
    let is : c.as_slice-in-Ok.result.now ≡ variables_once c.args.terms.now = grind (arith, common_steps) in
    subst AreDistinct (sym is) (once_distinct c.args.terms.now)

pub variants_of-requires-in-Err-TooMany : goal.variants_of-requires-in-Err-TooMany
variants_of-requires-in-Err-TooMany c =
    let is : c.as_slice-in-Err-TooMany.result.now ≡ variables_once c.args.terms.now = grind (arith, common_steps) in
    subst AreDistinct (sym is) (once_distinct c.args.terms.now)
