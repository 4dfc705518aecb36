use Rattle.std.proofs.Common.{◌≡◌, ◌∙◌, ap, not, take}
use Rattle.std.specs.Borrow.{Bor}
use Rattle.std.specs.Prelude.{filter, flat_map}
use Rattle.npa_term.specs.declared.term.Term.{Term}
use Rattle.npa_variants.specs.Rows.{applications, is_among, own_parts, parts}
use Rattle.npa_variants.specs.Search.{by_part, folded}
use Rattle.npa_variants.specs.Told.{as_kept, seen}
use Rattle.npa_variants.proofs.Folding.{folded_seen}
use Rattle.npa_variants.proofs.narrowing.by_row.Goals as goal

pub loop-part-init : goal.loop-part-init
loop-part-init c =
    let th = c.args.th.now in
    let m = c.args.m in
    let row = c.args.row.now in
    let own : seen c.as_slice-part-items.result.now ≡ own_parts m row =
    ap seen c.as_slice-part-items.ensures.value ∙ c.in_ok-own.ensures
    ∙ ap (λ us. filter (λ u. not (is_among (flat_map parts us) u)) (flat_map applications c.split.result.1.now)) c.split.ensures.values
    ∙ ap (λ us. filter (λ u. not (is_among (flat_map parts (take m row)) u)) (flat_map applications us)) c.split.ensures.terms in
    folded_seen (λ (b : Bor Term). b.now) (by_part 64 th m row) c.as_slice-part-items.result.now (as_kept c.args.kept)
    ∙ ap (λ us. folded (by_part 64 th m row) us (as_kept c.args.kept)) own
