use Rattle.std.proofs.Common.{◌≡◌, slice_get}
use Rattle.npa_sig.specs.declared.protocol.Strand.{Strand as Role}
use Rattle.npa_moves.specs.Lists.{each_place, strand_problems, variant_problems}
use Rattle.npa_moves.specs.Steps.{Gives, found_variants, solve_over}
use Rattle.npa_back.specs.Behind.{all_behind}
use Rattle.std.proofs.Common.{get_or, ◌∙◌, ap, subst}
use Rattle.std.proofs.lemmas.Option.{get_or_from_slice_get}
use Rattle.npa_sig.specs.declared.protocol.Protocol.{Protocol}
use Rattle.npa_moves.proofs.Solved.{found_is}
use Rattle.npa_back.proofs.introducing.add_strand.Goals as goal

-- src/introducing.rt:42:1
pub returns : goal.returns
returns c = λ strand there.
    let n = c.args.narrowing.now in
    let found = found_is n.ready.now strand c.strand_variants-variants.result.now (c.strand_variants-variants.ensures strand (ap (slice_get n.ready.now.strands) c.in-Ok.ensures.1 ∙ there)) in
    let is : c.index-as_slice-s.result ≡ strand = c.index-as_slice-s.is ∙ ap (λ xs. get_or xs c.args.s c.index-as_slice-s.result) (c.as_slice.ensures ∙ ap (λ (x : Protocol). x.strands) c.protocol.ensures) ∙ get_or_from_slice_get n.ready.now.strands c.args.s strand c.index-as_slice-s.result there in
    subst (Gives c.add_variants.result)
    (ap (λ (x : Role). all_behind (solve_over n.ready.now.sig.sorts) n.vars.now c.args.made (each_place (variant_problems n.pattern.now c.in-Ok.number x) 0 c.as_slice-2.result.now)) is
    ∙ ap (λ vs. all_behind (solve_over n.ready.now.sig.sorts) n.vars.now c.args.made (each_place (variant_problems n.pattern.now c.in-Ok.number strand) 0 vs)) (c.as_slice-2.ensures ∙ found)
    ∙ ap (λ s. all_behind (solve_over n.ready.now.sig.sorts) n.vars.now c.args.made (strand_problems (found_variants n.ready.now) n.pattern.now s strand)) c.in-Ok.ensures.1)
    c.add_variants.ensures
