use Rattle.std.proofs.Common.{◌≡◌, length, ◌∙◌, ap, arith}
use Rattle.npa_match.specs.Matching.{read_pairs}
use Rattle.npa_variants.proofs.Answering.{covers_told}
use Rattle.npa_variants.proofs.covering.covers.Goals as goal

pub returns : goal.returns
returns c =
    covers_told c.args.sorts.now c.args.row.now c.args.other.now _ c.has_match.result (let long : length c.args.row.now ≡ length c.args.other.now = grind arith in long)
    (ap read_pairs c.as_slice.ensures.value ∙ c.in_ok-pairs.ensures) c.has_match.ensures.matched c.has_match.ensures.none
