use Rattle.std.proofs.Common.{◌≡◌, ◌∙◌}
use Rattle.npa_variants.proofs.StrandParams.{terms_made}
use Rattle.npa_variants.proofs.strands.strand_terms.Goals as goal

pub returns : goal.returns
returns c =
    c.from_vec.ensures
    ∙ terms_made c.args.strand.now c.new-terms.result.items c.push_params.new.terms.items c.push_fresh.new.terms.items c.push_messages.new.terms.items
    c.as_slice.result.now c.as_slice-2.result.now c.new-terms.ensures.items c.in_ok-push_params.ensures c.as_slice.ensures
    c.in_ok-push_fresh.ensures c.in_ok-push_messages.ensures c.as_slice-2.ensures
