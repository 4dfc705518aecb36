use Rattle.std.proofs.Common.{◌≡◌, ◌≤◌, ◌∙◌, length, arith}
use Rattle.npa_rewrite.specs.Theories.{theory_of}
use Rattle.npa_checking.proofs.Counts.{few_found, found_length, there}
use Rattle.npa_checking.proofs.counting.strand_count.Goals as goal

pub returns-clause-count : goal.returns-clause-count
returns-clause-count c = λ strand at. c.len.ensures ∙ found_length (theory_of c.args.ready.now) strand c.strand_variants.result.now (c.strand_variants.ensures strand at)

pub returns-clause-few : goal.returns-clause-few
returns-clause-few c =
    let strand = there c.args.ready.now.strands c.args.place c.requires in
    let few : length c.strand_variants.result.now ≤ 64 =
    few_found (theory_of c.args.ready.now) strand.0 c.strand_variants.result.now (c.strand_variants.ensures strand.0 strand.1) in
    let long : c.len.result ≡ length c.strand_variants.result.now = c.len.ensures in
    omega (arith, few, long)
