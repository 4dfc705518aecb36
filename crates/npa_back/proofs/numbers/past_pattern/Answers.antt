use Rattle.std.proofs.Common.{◌≡◌, flat_map}
use Rattle.npa_term.specs.Variables.{variables}
use Rattle.npa_variants.specs.Search.{past as past_of}
use Rattle.npa_model.specs.Fitting.{strand_variables}
use Rattle.std.proofs.Common.{◌∙◌, ap}
use Rattle.npa_back.proofs.PastNumbers.{past_three}
use Rattle.npa_back.proofs.numbers.past_pattern.Goals as goal

-- src/numbers.rt:11:1
pub returns : goal.returns
returns c =
    let g = c.args.g.now in
    let strands : c.past_strands.result ≡ past_of (flat_map strand_variables g.strands) = c.past_strands.ensures ∙ ap (λ ps. past_of (flat_map strand_variables ps)) c.as_slice.ensures in
    let known : c.past_all.result ≡ past_of (flat_map variables g.known) = c.past_all.ensures ∙ ap (λ ts. past_of (flat_map variables ts)) c.as_slice-2.ensures in
    let unknown : c.past_all-2.result ≡ past_of (flat_map variables g.unknown) = c.past_all-2.ensures ∙ ap (λ ts. past_of (flat_map variables ts)) c.as_slice-3.ensures in
    past_three g c.max-2.result c.max.result c.past_strands.result c.past_all.result c.past_all-2.result c.max-2.ensures c.max.ensures strands known unknown
