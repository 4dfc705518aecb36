use Rattle.std.proofs.Common.{◌<◌, ℕ, length, arith}
use Rattle.std.proofs.lemmas.Grind.{common_steps}
use Rattle.npa_sig.specs.declared.protocol.Strand.{Strand}
use Rattle.npa_rewrite.specs.Theories.{theory_of}
use Rattle.npa_variants.specs.Ready.{strand_rows}
use Rattle.npa_checking.specs.Lines.{found_count, variant_count}
use Rattle.npa_checking.proofs.Counts.{next}
use Rattle.npa_checking.proofs.counting.variant_count.Goals as goal

pub loop-place-preserved : goal.loop-place-preserved
loop-place-preserved c =
    let ready = c.args.ready.now in
    let f : Strand → ℕ = λ strand. found_count (strand_rows (theory_of ready) strand) in
    let small : c.loop-place.place < length ready.strands = grind (arith, common_steps) in
    record {
      rest = next f ready.strands c.loop-place.place c.loop-place.count c.strand_count-count.result (variant_count ready) small c.strand_count-count.ensures.count c.loop-place.invariant.rest;
      few = grind (arith, common_steps);
    }
