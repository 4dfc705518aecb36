use Rattle.std.proofs.Common.{◌≡◌, flat_map}
use Rattle.npa_term.specs.Variables.{variables}
use Rattle.npa_variants.specs.Search.{past as past_of}
use Rattle.std.proofs.Common.{sym, ◌∙◌, ap}
use Rattle.std.specs.Prelude.{max}
use Rattle.npa_back.proofs.PastNumbers.{past_both}
use Rattle.npa_back.proofs.numbers.past_strand.Goals as goal

-- src/numbers.rt:29:1
pub returns : goal.returns
returns c =
    let first : c.past_all.result ≡ past_of (flat_map variables c.args.p.now.args) = c.past_all.ensures ∙ ap (λ ts. past_of (flat_map variables ts)) c.as_slice.ensures in
    let second : c.past_all-2.result ≡ past_of (flat_map variables c.args.p.now.msgs) = c.past_all-2.ensures ∙ ap (λ ts. past_of (flat_map variables ts)) c.as_slice-2.ensures in
    c.max.ensures ∙ ap (λ n. max n c.past_all-2.result) first ∙ ap (max (past_of (flat_map variables c.args.p.now.args))) second
    ∙ sym (past_both (flat_map variables c.args.p.now.args) (flat_map variables c.args.p.now.msgs))
