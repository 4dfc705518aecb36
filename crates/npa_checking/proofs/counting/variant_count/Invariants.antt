use Rattle.std.proofs.Common.{◌≡◌, ◌+◌, ◌*◌, ◌≤◌}
use Rattle.npa_rewrite.specs.Theories.{theory_of}
use Rattle.npa_variants.specs.Ready.{strand_rows}
use Rattle.npa_checking.specs.Lines.{found_count, variant_count}
use Rattle.npa_checking.proofs.Counts.{left}
use Rattle.npa_checking.proofs.counting.variant_count.Given as goal

abbrev pub invariant-loop-place : goal.invariant-loop-place
invariant-loop-place l = record {
  rest : l.count + left (λ strand. found_count (strand_rows (theory_of l.ready) strand)) l.place l.ready.strands ≡ variant_count l.ready;
  few : l.count ≤ 64 * l.place;
}
