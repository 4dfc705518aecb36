use Rattle.std.proofs.Common.{◌≡◌, ◌<◌, ℕ, false, slice_index}
use Rattle.npa_replay.specs.Groups.{is_marked}
use Rattle.npa_replay.proofs.links.has_mark.Given as goal

abbrev pub invariant-loop-key : goal.invariant-loop-key
invariant-loop-key l = (i : ℕ) → i < l.key-index → is_marked l.marks (slice_index l.keys i) ≡ false
