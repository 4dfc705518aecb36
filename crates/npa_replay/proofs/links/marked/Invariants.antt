use Rattle.std.proofs.Common.{◌≡◌, ◌<◌, ℕ, true, slice_index}
use Rattle.npa_replay.specs.Groups.{is_marked}
use Rattle.npa_replay.proofs.links.marked.Given as goal

abbrev pub invariant-loop-key : goal.invariant-loop-key
invariant-loop-key l = (i : ℕ) → i < l.key-index → is_marked l.marks.items (slice_index l.keys i) ≡ true
