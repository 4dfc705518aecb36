use Rattle.std.proofs.Common.{◌-◌, ◌≡◌, length, vec_len}
use Rattle.npa_text.proofs.real.read_file.Given as goal

abbrev pub invariant-loop-piece : goal.invariant-loop-piece
invariant-loop-piece g l = length l.piece ≡ 16384

abbrev pub decreases-loop-piece : goal.decreases-loop-piece
decreases-loop-piece g l = 1048577 - vec_len l.into
