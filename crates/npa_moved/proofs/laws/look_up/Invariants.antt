use Rattle.std.proofs.Common.{◌≡◌, ℕ, ◌<◌, slice_get, Some}
use Rattle.npa_sig.specs.declared.protocol.Strand.{Strand}
use Rattle.npa_rewrite.specs.Theories.{theory_of}
use Rattle.npa_variants.specs.Ready.{IsFound}
use Rattle.npa_moves.specs.Steps.{found_variants}
use Rattle.npa_moved.proofs.laws.look_up.Given as goal

abbrev pub invariant-loop-s : goal.invariant-loop-s
invariant-loop-s l = (k : ℕ) (strand : Strand) → k < l.s → slice_get l.ready.strands k ≡ Some strand → IsFound (theory_of l.ready) strand (found_variants l.ready strand)
