use Rattle.std.proofs.Common.{◌≡◌, None, ◌∙◌, ap, map, arith}
use Rattle.std.proofs.lemmas.Grind.{common_steps}
use Rattle.npa_term.specs.Bound.{applied}
use Rattle.npa_term.specs.Canonical.{canonical}
use Rattle.npa_variants.specs.Search.{first_large, values_under}
use Rattle.npa_variants.specs.Told.{as_kept}
use Rattle.npa_variants.proofs.Answering.{placed_told}
use Rattle.npa_variants.proofs.narrowing.by_unifier.Goals as goal

pub returns : goal.returns
returns c =
    let tried = c.args.tried.now in
    let s = c.args.s.now in
    let small : None ≡ first_large (map (applied s) tried.row.now) = grind (arith, common_steps) in
    let values : c.in_ok-values.values.items ≡ values_under tried.m tried.row.now s =
    c.in_ok-values.ensures ∙ ap (map (λ t. canonical (applied s t))) c.split.ensures.values in
    placed_told tried.th.now tried.m tried.row.now s (as_kept c.args.kept) c.in_ok-values.values.items c.in_ok-are_normal.field-0 c.place.result _ c.split.result.1.now c.in_ok-row.row
    small values c.in_ok-are_normal.ensures c.as_slice.ensures.value c.if-not-branch.false c.split.ensures.terms c.in_ok-row.ensures c.sorts.ensures c.place.ensures
